use Rattle.std.proofs.Common.{◌≡◌, flat_map, take}
use Rattle.hub_decisions.specs.declared.lines.PresentLine.{PresentLine}
use Rattle.hub_decisions.proofs.lines.share_all.Given as goal

abbrev pub invariant-loop-kept : goal.invariant-loop-kept
invariant-loop-kept l = l.batch ≡ flat_map (λ (kept : PresentLine). kept.line) (take l.kept-index l.lines)
