-- Rings for one after the other.
use Rattle.std.proofs.Common.{◌≡◌, ◌≢◌, ◌<◌, ◌+◌, ℕ, true, arith, sym, ◌∙◌, subst, inl, inr, slice_get, length, ◌≤◌}
use Rattle.std.proofs.lemmas.Option.{slice_get_within}
use Rattle.server_tasks.specs.declared.bells.BellState.{BellState}
use Rattle.server_tasks.specs.Bells.{is_unheard}
use Rattle.server_tasks.specs.Rung.{At, IsRung, IsAwake, OthersStay, SameSlots}
use Rattle.server_tasks.specs.declared.bells.Bells.{Bells}
use Rattle.server_tasks.proofs.Indexes.{same_or_not}

-- all below the bound but one were rung for, which is as it was
abbrev pub RungBelow : ℕ → Bells → ℕ → Bells → Type 0
RungBelow own old bound new =
    ((slot : ℕ) → slot ≢ own → slot < bound → IsRung new slot)
    × ((slot : ℕ) → slot ≢ own → slot < bound → IsAwake new slot)
    × (slice_get new.bells.items own ≡ slice_get old.bells.items own)
    × (new.rings ≡ old.rings)
    × SameSlots old new

pub one_more : (own bound : ℕ) (old mid new : Bells) → RungBelow own old bound mid → bound ≢ own → IsRung new bound → IsAwake new bound → OthersStay mid new bound →
    RungBelow own old (bound + 1) new
one_more own bound old mid new were ne rung awake stay = (
  (λ slot not_own lt. elim (same_or_not bound slot) [
    | inl e ↦ subst (IsRung new) (sym e) rung
    | inr other ↦ λ bell got. subst (λ rings. is_unheard rings bell ≡ true) (sym stay.0) (were.0 slot not_own (omega (arith, lt, other)) bell (sym (stay.2 slot other) ∙ got))
  ]),
  (λ slot not_own lt. elim (same_or_not bound slot) [
    | inl e ↦ subst (IsAwake new) (sym e) awake
    | inr other ↦ λ bell got. were.1 slot not_own (omega (arith, lt, other)) bell (sym (stay.2 slot other) ∙ got)
  ]),
  stay.2 own (λ e. ne (sym e)) ∙ were.2,
  stay.0 ∙ were.3,
  stay.1 ∙ were.4,
)

-- it is the one that is left out
pub one_left_out : (own bound : ℕ) (old new : Bells) → RungBelow own old bound new → bound ≡ own → RungBelow own old (bound + 1) new
one_left_out own bound old new were e = (
  (λ slot not_own lt. were.0 slot not_own (omega (arith, lt, not_own, e))),
  (λ slot not_own lt. were.1 slot not_own (omega (arith, lt, not_own, e))),
  were.2,
  were.3,
  were.4,
)

-- there is nothing at or past the bound
pub all_below : {P : BellState → Type 0} (own bound : ℕ) (new : Bells) → length new.bells.items ≤ bound →
    ((slot : ℕ) → slot ≢ own → slot < bound → At new slot P) → (slot : ℕ) → slot ≢ own → At new slot P
all_below own bound new le each slot ne bell got =
    let within : slot < length new.bells.items = slice_get_within new.bells.items slot bell got in
    each slot ne (omega (arith, within, le)) bell got
