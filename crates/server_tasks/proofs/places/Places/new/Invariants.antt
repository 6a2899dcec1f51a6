use Rattle.std.proofs.Common.{◌≡◌, length}
use Rattle.server_tasks.proofs.places.Places.new.Given as goal

abbrev pub invariant-loop-slot : goal.invariant-loop-slot
invariant-loop-slot g l = length l.places.items ≡ l._slot
