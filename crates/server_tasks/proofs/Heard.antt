-- Whose bell has heard all rings.
use Rattle.std.proofs.Common.{◌≡◌, ◌==◌, ℕ, List, not, false, arith, IsTrue}
use Rattle.server_tasks.specs.Bells.{AreBells, is_among, is_unheard}
use Rattle.server_tasks.specs.declared.bells.BellState.{BellState}

pub heard_all : (rings : ℕ) → not (rings == rings) ≡ false
heard_all rings = grind arith

-- more that wait are found
pub grown : (bells : List BellState) (old new : List ℕ) (rings : ℕ) → ((other : ℕ) → IsTrue (is_among other old) → IsTrue (is_among other new)) →
    AreBells bells old rings → AreBells bells new rings
grown bells old new rings more were slot bell got =
    (λ waits. more slot ((were slot bell got).0 waits), λ left. more slot ((were slot bell got).1 left), (were slot bell got).2)

-- who was not called, and has heard as many rings as there were
pub quiet : (rings : ℕ) (bell : BellState) → bell.is_called ≡ false → bell.heard ≡ rings → is_unheard rings bell ≡ false
quiet rings bell not_called all = grind (arith, not_called, all)
