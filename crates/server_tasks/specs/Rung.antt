-- When the session of a slot has a ring that it has not heard yet.
use Rattle.std.specs.Prelude.{◌≡◌, ◌≢◌, ◌⊎◌, ℕ, true, false, Some, None, length, IsTrue, IsSomeAnd, slice_get, take}
use Rattle.server_tasks.specs.Bells.{is_among, is_unheard, woken}
use Rattle.server_tasks.specs.declared.bells.BellState.{BellState}
use Rattle.server_tasks.specs.declared.bells.Bells.{Bells}
use Rattle.futures.specs.Task.{Wakes}
use Rattle.futures.specs.declared.task.context.Context.{Context}

-- what holds of the bell of a slot, if there is that slot
abbrev pub At : Bells → ℕ → (BellState → Type 0) → Type 0
At bells slot P = (bell : BellState) → slice_get bells.bells.items slot ≡ Some bell → P bell

-- the session of the slot has a ring that it has not heard
abbrev pub IsRung : Bells → ℕ → Type 0
IsRung bells slot = At bells slot (λ bell. is_unheard bells.rings bell ≡ true)

-- it has heard them all
abbrev pub HasHeard : Bells → ℕ → Type 0
HasHeard bells slot = At bells slot (λ bell. is_unheard bells.rings bell ≡ false)

-- nothing of it is left that could be woken: whoever rested was woken
abbrev pub IsAwake : Bells → ℕ → Type 0
IsAwake bells slot = At bells slot (λ bell. bell.waker ≡ None)

-- it is among those for whom a ring of everybody has come, and who are woken next
abbrev pub IsDue : Bells → ℕ → Type 0
IsDue bells slot = IsTrue (is_among slot (take bells.due bells.waiting.items))

-- The waker of this context's task is there, where a ring of everybody finds it. Where none could be made, the task was woken.
abbrev pub Rests : Bells → ℕ → Context → Context → Type 0
Rests bells slot before after =
    At bells slot (λ bell.
    ((after.lacks_waker ≡ true) ⊎ IsSomeAnd bell.waker (λ waker. Wakes waker before))
    × IsTrue (is_among slot bells.waiting.items))

-- there are as many slots
abbrev pub SameSlots : Bells → Bells → Type 0
SameSlots old new = length new.bells.items ≡ length old.bells.items

-- all slots but one, if any, are as they were
abbrev pub OthersStay : Bells → Bells → ℕ → Type 0
OthersStay old new slot =
    (new.rings ≡ old.rings)
    × SameSlots old new
    × ((other : ℕ) → other ≢ slot → slice_get new.bells.items other ≡ slice_get old.bells.items other)

-- the slot is rung exactly where it was
abbrev pub StaysRung : Bells → Bells → ℕ → Type 0
StaysRung old new slot = At old slot (λ was. At new slot (λ bell. is_unheard new.rings bell ≡ is_unheard old.rings was))

-- the bell of the slot is as it was, or the session had a ring that it had not heard, and was woken
abbrev pub StaysOrIsWoken : Bells → Bells → ℕ → Type 0
StaysOrIsWoken old new slot =
    At old slot (λ was.
    (slice_get new.bells.items slot ≡ Some was)
    ⊎ ((is_unheard old.rings was ≡ true) × (slice_get new.bells.items slot ≡ Some (woken was))))
