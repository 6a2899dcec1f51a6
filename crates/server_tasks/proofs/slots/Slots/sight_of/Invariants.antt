use Rattle.std.proofs.Common.{take}
use Rattle.server_tasks.specs.Clients.{IsSightOf}
use Rattle.server_tasks.proofs.slots.Slots.sight_of.Given as goal

abbrev pub invariant-loop-slot : goal.invariant-loop-slot
invariant-loop-slot l = IsSightOf l.sight l.said (take l.slot-index l.slot-items)
