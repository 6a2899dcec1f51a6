use Rattle.std.proofs.Common.{◌≡◌, ◌+◌, map, take}
use Rattle.outboxes.specs.Backlogs.{size_of}
use Rattle.outboxes.proofs.outbox.size_within.Given as goal

abbrev pub invariant-loop-line : goal.invariant-loop-line
invariant-loop-line l = l.left + size_of (map (λ line. line.value) (take l.line-index l.lines)) ≡ l.room
