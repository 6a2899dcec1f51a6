use Rattle.std.proofs.Common.{◌≡◌, length}
use Rattle.server_tasks.proofs.held.Held.new.Given as goal

abbrev pub invariant-loop-place : goal.invariant-loop-place
invariant-loop-place g l = length l.places.items ≡ l._place
