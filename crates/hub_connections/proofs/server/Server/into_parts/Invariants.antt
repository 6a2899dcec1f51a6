use Rattle.std.proofs.Common.{length}
use Rattle.hub_connections.proofs.server.Server.into_parts.Given as goal

abbrev pub invariant-loop-accepted : goal.invariant-loop-accepted
invariant-loop-accepted g l = Unit {0}

-- one less is left at each turn
abbrev pub decreases-loop-accepted : goal.decreases-loop-accepted
decreases-loop-accepted g l = length l.left
