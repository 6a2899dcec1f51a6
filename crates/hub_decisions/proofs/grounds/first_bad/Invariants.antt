use Rattle.std.proofs.Common.{◌≡◌, drop}
use Rattle.std.specs.List.{find}
use Rattle.hub_rules.specs.Grounds.{is_bad}
use Rattle.hub_decisions.proofs.grounds.first_bad.Given as goal

abbrev pub invariant-loop-field : goal.invariant-loop-field
invariant-loop-field l = find (is_bad l.update) (drop l.field-index l.fields) ≡ find (is_bad l.update) l.fields
