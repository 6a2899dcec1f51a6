use Rattle.std.proofs.Common.{◌≡◌, ℕ, Some, slice_get}
use Rattle.server_tasks.specs.declared.bells.BellState.{BellState}
use Rattle.server_tasks.proofs.Silent.{IsSilent}
use Rattle.server_tasks.proofs.bells.Bells.new.Given as goal

abbrev pub invariant-loop-slot : goal.invariant-loop-slot
invariant-loop-slot l = (slot : ℕ) (bell : BellState) → slice_get l.bells.items slot ≡ Some bell → IsSilent bell
