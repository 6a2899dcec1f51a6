use Rattle.server_tasks.specs.Clients.{ticked_slot}
use Rattle.server_tasks.proofs.Mapped.{ChangedBelow}
use Rattle.server_tasks.proofs.pacing.tick_all.Given as goal

abbrev pub invariant-loop-slot : goal.invariant-loop-slot
invariant-loop-slot l = ChangedBelow (ticked_slot l.said l.due) l.fn.slots.items l.slot-index l.slot-items
