use Rattle.std.proofs.Common.{◌≡◌, ℕ, List, refl, sym, subst, arith, slice_get, Some, None, false}
use Rattle.server_tasks.specs.declared.bells.BellState.{BellState}
use Rattle.server_tasks.proofs.Indexes.{each_more}
use Rattle.server_tasks.proofs.Silent.{IsSilent}
use Rattle.server_tasks.proofs.bells.Bells.new.Goals as goal

pub loop-slot-preserved : goal.loop-slot-preserved
loop-slot-preserved c =
    let Each : List BellState → Type 0 = λ bells. (slot : ℕ) (bell : BellState) → slice_get bells slot ≡ Some bell → IsSilent bell in
    let first : BellState = record { heard = 0; is_called = false; waker = None; waits = false } in
    subst Each (sym c.in_ok-push.ensures.items) (each_more IsSilent c.loop-slot.bells.items first c.loop-slot.invariant (refl, refl, refl))

pub invariant_of-result : goal.invariant_of-result
invariant_of-result c =
    record {
      are_bells = λ slot bell got. let silent : IsSilent bell = c.loop-slot.invariant slot bell got in
          (λ no. grind (arith, no, silent.1), λ no. grind (arith, no, silent.2), omega (arith, silent.0));
      are_due = λ slot bell got left _. let silent : IsSilent bell = c.loop-slot.invariant slot bell got in absurd (grind (arith, left, silent.2));
      within = omega arith;
      crier_wakes = λ _. refl;
    }
