-- The place of a user: who stands there, and what becomes of the list there.
use Rattle.std.specs.List.{find}
use Rattle.std.proofs.Common.{◌≡◌, ℕ, zero, suc, ◌+◌, ◌<◌, arith, Bool, true, false, not, List, [], ◌∷◌, ◌++◌, length, map, filter, take, drop, refl, sym, ap, ◌∙◌, inl, inr, slice_index_or, slice_set}
use Rattle.std.specs.Prelude.{Option, Some, None}
use Rattle.std.proofs.lemmas.Bool.{cases_Bool, cond-true, cond-false}
use Rattle.std.proofs.lemmas.Option.{none-some}
use Rattle.std.specs.Option.{unwrap_or}
use Rattle.user_table.specs.Listed.{Listed}
use Rattle.user_table.specs.Places.{place_from}

-- the first user who passes a test stands at this place
abbrev pub IsFirst : (Listed → Bool) → List Listed → ℕ → Type 0
IsFirst test [] place = ⊥
IsFirst test (user ∷ users) zero = test user ≡ true
IsFirst test (user ∷ users) (suc place) = (test user ≡ false) × IsFirst test users place

-- no user passes a test
abbrev pub Nobody : (Listed → Bool) → List Listed → Type 0
Nobody test [] = Unit {0}
Nobody test (user ∷ users) = (test user ≡ false) × Nobody test users

shifted : (place start k : ℕ) → place ≡ start + 1 + k → place ≡ start + suc k
shifted place start k e = omega arith

started : (place start : ℕ) → start ≡ place → place ≡ start + 0
started place start e = omega arith

pub place-found : (test : Listed → Bool) (start : ℕ) (users : List Listed) (place : ℕ) → place_from test start users ≡ Some place → (k : ℕ) × (place ≡ start + k) × IsFirst test users k
unfolding place_from
place-found test start [] place e = absurd (none-some place e)
place-found test start (user ∷ users) place e =
    elim (cases_Bool (test user)) [
      | inl yes' ↦ (0, started _ _ (ap (λ (o : Option ℕ). unwrap_or o 0) (sym (sym e ∙ cond-true _ _ _ yes'))), yes')
      | inr no' ↦
          let more = place-found test (start + 1) users place (sym (cond-false _ _ _ no') ∙ e) in
          (suc more.0, shifted _ _ _ more.1, (no', more.2))
    ]

pub place-none : (test : Listed → Bool) (start : ℕ) (users : List Listed) → place_from test start users ≡ None → Nobody test users
unfolding place_from
place-none test start [] e = tt
place-none test start (user ∷ users) e =
    elim (cases_Bool (test user)) [
      | inl yes' ↦ absurd (none-some start (sym e ∙ cond-true _ _ _ yes'))
      | inr no' ↦ (no', place-none test (start + 1) users (sym (cond-false _ _ _ no') ∙ e))
    ]

pub nobody-first : (test : Listed → Bool) (users : List Listed) → Nobody test users → find test users ≡ None
nobody-first test [] n = refl
nobody-first test (user ∷ users) n = cond-false _ _ _ n.0 ∙ nobody-first test users n.1

pub first-nobody : (test : Listed → Bool) (users : List Listed) → find test users ≡ None → Nobody test users
first-nobody test [] e = tt
first-nobody test (user ∷ users) e =
    elim (cases_Bool (test user)) [
      | inl yes' ↦ absurd (none-some user (sym e ∙ cond-true _ _ _ yes'))
      | inr no' ↦ (no', first-nobody test users (sym (cond-false _ _ _ no') ∙ e))
    ]

pub first-here : (test : Listed → Bool) (users : List Listed) (place : ℕ) (d : Listed) → IsFirst test users place → find test users ≡ Some (slice_index_or users place d)
first-here test [] place d f = elim f [ ]
first-here test (user ∷ users) zero d f = cond-true _ _ _ f
first-here test (user ∷ users) (suc place) d f = cond-false _ _ _ f.0 ∙ first-here test users place d f.1

pub first-below : (test : Listed → Bool) (users : List Listed) (place : ℕ) → IsFirst test users place → place < length users
first-below test [] place f = elim f [ ]
first-below test (user ∷ users) zero f = omega arith
first-below test (user ∷ users) (suc place) f = let e : place < length users = first-below test users place f.1 in omega arith

-- where nobody else passes the test, a filter takes that user out
unfoldable pub AreApart : (Listed → Bool) → List Listed → Type 0
AreApart test [] = Unit {0}
AreApart test (user ∷ users) = (test user ≡ true → Nobody test users) × AreApart test users

pub nobody-filter : (test : Listed → Bool) (users : List Listed) → Nobody test users → filter (λ user. not (test user)) users ≡ users
nobody-filter test [] n = refl
nobody-filter test (user ∷ users) n = cond-true _ _ _ (ap not n.0) ∙ ap (λ (us : List Listed). user ∷ us) (nobody-filter test users n.1)

pub first-filter : (test : Listed → Bool) (users : List Listed) (place : ℕ) → IsFirst test users place → AreApart test users → take place users ++ drop (suc place) users ≡ filter (λ user. not (test user)) users
unfolding AreApart
first-filter test [] place f a = elim f [ ]
first-filter test (user ∷ users) zero f a = sym (cond-false _ _ _ (ap not f) ∙ nobody-filter test users (a.0 f))
first-filter test (user ∷ users) (suc place) f a =
    ap (λ (us : List Listed). user ∷ us) (first-filter test users place f.1 a.1) ∙ sym (cond-true _ _ _ (ap not f.0))

-- a change of those who pass a test
abbrev pub changed_by : (Bool → Listed → Listed) → (Listed → Bool) → Listed → Listed
changed_by change test user = change (test user) user

pub nobody-map : (change : Bool → Listed → Listed) (same : (u : Listed) → change false u ≡ u) (test : Listed → Bool) (users : List Listed) → Nobody test users → map (changed_by change test) users ≡ users
nobody-map change same test [] n = refl
nobody-map change same test (user ∷ users) n =
    ap (λ b. change b user ∷ map (changed_by change test) users) n.0 ∙ ap (λ (u : Listed). u ∷ map (changed_by change test) users) (same user)
    ∙ ap (λ (us : List Listed). user ∷ us) (nobody-map change same test users n.1)

pub first-map : (change : Bool → Listed → Listed) (same : (u : Listed) → change false u ≡ u) (test : Listed → Bool) (users : List Listed) (place : ℕ) (d : Listed)
    → IsFirst test users place → AreApart test users
    → slice_set users place (change true (slice_index_or users place d)) ≡ map (changed_by change test) users
unfolding AreApart
first-map change same test [] place d f a = elim f [ ]
first-map change same test (user ∷ users) zero d f a =
    sym (ap (λ b. change b user ∷ map (changed_by change test) users) f ∙ ap (λ (us : List Listed). change true user ∷ us) (nobody-map change same test users (a.0 f)))
first-map change same test (user ∷ users) (suc place) d f a =
    ap (λ (us : List Listed). user ∷ us) (first-map change same test users place d f.1 a.1)
    ∙ sym (ap (λ b. change b user ∷ map (changed_by change test) users) f.0 ∙ ap (λ (u : Listed). u ∷ map (changed_by change test) users) (same user))
