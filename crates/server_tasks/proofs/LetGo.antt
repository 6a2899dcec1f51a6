-- Those who gave way are woken one after the other.
use Rattle.std.proofs.Common.{◌≡◌, ◌≢◌, ◌==◌, ◌⊎◌, ◌++◌, ◌∷◌, [], ℕ, List, true, false, arith, sym, ◌∙◌, subst, inl, inr, slice_get, length, IsTrue}
use Rattle.std.proofs.lemmas.List.Folds.{list_any-append}
use Rattle.server_tasks.specs.Bells.{is_among, is_unheard}
use Rattle.server_tasks.specs.Rung.{IsRung, IsAwake, OthersStay, SameSlots}
use Rattle.server_tasks.specs.declared.bells.Bells.{Bells}
use Rattle.server_tasks.proofs.Indexes.{same_or_not}

-- who was held is woken, or is still held; all others are as they were
abbrev pub Released : List ℕ → Bells → List ℕ → Bells → Type 0
Released held old left new =
    ((slot : ℕ) → IsTrue (is_among slot held) → IsTrue (is_among slot left) ⊎ (IsRung new slot × IsAwake new slot))
    × ((slot : ℕ) → is_among slot held ≡ false → slice_get new.bells.items slot ≡ slice_get old.bells.items slot)
    × ((slot : ℕ) → IsTrue (is_among slot left) → IsTrue (is_among slot held))
    × (new.rings ≡ old.rings)
    × SameSlots old new

pub last_there : (slot : ℕ) (slots : List ℕ) → IsTrue (is_among slot (slots ++ slot ∷ []))
last_there slot slots = grind (arith, list_any-append (λ other. other == slot) slots (slot ∷ []))

pub there_too : (slot last : ℕ) (slots : List ℕ) → IsTrue (is_among slot slots) → IsTrue (is_among slot (slots ++ last ∷ []))
there_too slot last slots there = grind (arith, there, list_any-append (λ other. other == slot) slots (last ∷ []))

there_still : (slot last : ℕ) (slots : List ℕ) → slot ≢ last → IsTrue (is_among slot (slots ++ last ∷ [])) → IsTrue (is_among slot slots)
there_still slot last slots ne there = grind (arith, ne, there, list_any-append (λ other. other == slot) slots (last ∷ []))

not_both : (slot place : ℕ) (held : List ℕ) → is_among slot held ≡ false → IsTrue (is_among place held) → slot ≢ place
not_both slot place held absent there same = let here : IsTrue (is_among slot held) = subst (λ n. IsTrue (is_among n held)) (sym same) there in grind (arith, absent, here)

pub one_released : (held : List ℕ) (old mid new : Bells) (left : List ℕ) (place : ℕ) → Released held old (left ++ place ∷ []) mid →
    IsRung new place → IsAwake new place → OthersStay mid new place → Released held old left new
one_released held old mid new left place were rung awake stay = (
  (λ slot there. elim (same_or_not place slot) [
    | inl e ↦ inr (subst (IsRung new) (sym e) rung, subst (IsAwake new) (sym e) awake)
    | inr other ↦ elim (were.0 slot there) [
      | inl still ↦ inl (there_still slot place left other still)
      | inr done ↦ inr (
        (λ bell got. subst (λ rings. is_unheard rings bell ≡ true) (sym stay.0) (done.0 bell (sym (stay.2 slot other) ∙ got))),
        (λ bell got. done.1 bell (sym (stay.2 slot other) ∙ got)),
      )
    ]
  ]),
  (λ slot absent. stay.2 slot (not_both slot place held absent (were.2 place (last_there place left))) ∙ were.1 slot absent),
  (λ slot there. were.2 slot (there_too slot place left there)),
  stay.0 ∙ were.3,
  stay.1 ∙ were.4,
)

pub all_released : (held : List ℕ) (old new : Bells) (left : List ℕ) → length left ≡ 0 → Released held old left new →
    (slot : ℕ) → IsTrue (is_among slot held) → IsRung new slot × IsAwake new slot
all_released held old new [] none were slot there = elim (were.0 slot there) [ inl still ↦ absurd (grind (arith, still)) | inr done ↦ done ]
all_released held old new (x ∷ xs) none were slot there = absurd (grind (arith, none))
