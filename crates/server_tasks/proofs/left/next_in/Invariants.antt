use Rattle.std.proofs.Common.{◌≡◌}
use Rattle.server_tasks.specs.HandOff.{arrivals_in}
use Rattle.server_tasks.proofs.left.next_in.Given as goal

abbrev pub invariant-loop-arrival : goal.invariant-loop-arrival
invariant-loop-arrival g l = arrivals_in l.initial.places.items ≡ arrivals_in l.places.items

abbrev pub decreases-loop-arrival : goal.decreases-loop-arrival
decreases-loop-arrival g l = goal.left-loop-arrival g l
