-- The bells of the slots: what is true of each, whatever was rung.
use Rattle.std.specs.Prelude.{◌≡◌, ◌≤◌, ◌==◌, ◌||◌, ◌-◌, if◌then◌else◌, ℕ, Bool, true, false, not, List, Some, None, IsTrue, is_some, slice_get, take}
use Rattle.std.specs.List.{list_any}
use Rattle.server_tasks.specs.declared.bells.BellState.{BellState}

-- the slot is in the list
abbrev pub is_among : ℕ → List ℕ → Bool
is_among slot slots = list_any (λ other. other == slot) slots

-- it was called, or has not heard the last ring of everybody
abbrev pub is_unheard : ℕ → BellState → Bool
is_unheard rings bell = bell.is_called || not (bell.heard == rings)

-- A ring of everybody finds who waits, and each who has left a waker. Nobody has heard a ring that is still to come.
abbrev pub AreBells : List BellState → List ℕ → ℕ → Type 0
AreBells bells waiting rings =
    (slot : ℕ) (bell : BellState) → slice_get bells slot ≡ Some bell →
    (IsTrue bell.waits → IsTrue (is_among slot waiting))
    × (IsTrue (is_some bell.waker) → IsTrue (is_among slot waiting))
    × (bell.heard ≤ rings)

-- Whoever has left a waker, and has a ring that it has not heard, is due: it is among the first of those that wait.
abbrev pub AreDue : List BellState → List ℕ → ℕ → ℕ → Type 0
AreDue bells waiting due rings =
    (slot : ℕ) (bell : BellState) → slice_get bells slot ≡ Some bell → IsTrue (is_some bell.waker) → is_unheard rings bell ≡ true →
    IsTrue (is_among slot (take due waiting))

-- nobody waits at it any more
abbrev pub woken : BellState → BellState
woken bell = record bell { waker = None; waits = false }

-- the bell, where who has a ring that it has not heard is woken
abbrev pub woken_if_rung : ℕ → BellState → BellState
woken_if_rung rings bell = if is_unheard rings bell then woken bell else bell

-- the bell, where the last of so many rings of everybody is left out
abbrev pub passed_over : ℕ → BellState → BellState
passed_over rings bell = record bell { heard = if bell.heard == rings - 1 then rings else bell.heard }
