use Rattle.futures.specs.Task.{Keeps}
use Rattle.server_tasks.specs.Lingers.{IsHeldOn}
use Rattle.server_tasks.proofs.Mapped.{RelatedBelow}
use Rattle.server_tasks.proofs.held.Held.poll_lingering.Given as goal

abbrev pub invariant-loop-place : goal.invariant-loop-place
invariant-loop-place g l = Keeps l.fn.cx l.cx × RelatedBelow (IsHeldOn l.now l.is_end) l.fn.self.places.items l.place-index l.place-items
