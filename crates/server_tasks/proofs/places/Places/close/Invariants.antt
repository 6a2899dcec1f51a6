use Rattle.server_tasks.specs.HandOff.{awake}
use Rattle.server_tasks.proofs.Mapped.{ChangedBelow}
use Rattle.server_tasks.proofs.places.Places.close.Given as goal

abbrev pub invariant-loop-place : goal.invariant-loop-place
invariant-loop-place g l = ChangedBelow awake l.fn.self.places.items l.place-index l.place-items
