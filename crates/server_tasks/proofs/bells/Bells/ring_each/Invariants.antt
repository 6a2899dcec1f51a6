use Rattle.server_tasks.proofs.Each.{RungBelow}
use Rattle.server_tasks.proofs.bells.Bells.ring_each.Given as goal

abbrev pub invariant-loop-slot : goal.invariant-loop-slot
invariant-loop-slot l = RungBelow l.own l.fn.self l.slot l.self
