use Rattle.std.proofs.Common.{length}
use Rattle.tests_server.proofs.lingering.is_over_after.Given as goal

abbrev pub invariant-loop : goal.invariant-loop
invariant-loop g l = Unit {0}

-- one less is left at each turn
abbrev pub decreases-loop : goal.decreases-loop
decreases-loop g l = length l.left
