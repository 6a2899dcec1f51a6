-- What a write to one place of a list leaves at each place.
use Rattle.std.proofs.Common.{◌≡◌, ◌<◌, ◌≢◌, ◌≤◌, ◌⊎◌, ℕ, zero, suc, List, [], ◌∷◌, ◌++◌, length, set, Some, slice_get, refl, sym, ◌∙◌, ap, subst, inl, inr, arith}
use Rattle.std.proofs.lemmas.Option.{slice_get_past, same_Some, none-some}

pub get_set_other : {A : Type 0} (xs : List A) (i : ℕ) (y : A) (j : ℕ) → j ≢ i → slice_get (set xs i y) j ≡ slice_get xs j
get_set_other [] i y j ne = refl
get_set_other (x ∷ xs) zero y zero ne = absurd (ne refl)
get_set_other (x ∷ xs) zero y (suc j) ne = refl
get_set_other (x ∷ xs) (suc i) y zero ne = refl
get_set_other (x ∷ xs) (suc i) y (suc j) ne = get_set_other xs i y j (λ e. ne (ap suc e))

pub get_set_same : {A : Type 0} (xs : List A) (i : ℕ) (y x : A) → slice_get (set xs i y) i ≡ Some x → y ≡ x
get_set_same [] i y x got = absurd (none-some x got)
get_set_same (z ∷ xs) zero y x got = same_Some y x got
get_set_same (z ∷ xs) (suc i) y x got = get_set_same xs i y x got

-- what holds of the value that was written holds of what is there
pub at_set : {A : Type 0} (P : A → Type 0) (xs : List A) (i : ℕ) (y : A) → P y → (x : A) → slice_get (set xs i y) i ≡ Some x → P x
at_set P xs i y holds x got = subst P (get_set_same xs i y x got) holds

pub same_or_not : (i j : ℕ) → (j ≡ i) ⊎ (j ≢ i)
same_or_not zero zero = inl refl
same_or_not zero (suc j) = inr (λ e. grind (arith, e))
same_or_not (suc i) zero = inr (λ e. grind (arith, e))
same_or_not (suc i) (suc j) = elim (same_or_not i j) [ inl e ↦ inl (ap suc e) | inr ne ↦ inr (λ e. ne (omega (arith, e))) ]

-- what held at each other place, and holds of the value that was written, holds at each place
pub each_set_but : {A : Type 0} (P : ℕ → A → Type 0) (xs : List A) (i : ℕ) (y : A) →
    ((j : ℕ) (x : A) → slice_get xs j ≡ Some x → j ≢ i → P j x) → P i y →
    (j : ℕ) (x : A) → slice_get (set xs i y) j ≡ Some x → P j x
each_set_but P xs i y each holds j x got =
    elim (same_or_not i j) [
      | inl e ↦ let at : slice_get (set xs i y) i ≡ Some x = subst (λ k. slice_get (set xs i y) k ≡ Some x) e got in
          subst (λ k. P k x) (sym e) (at_set (P i) xs i y holds x at)
      | inr ne ↦ each j x (sym (get_set_other xs i y j ne) ∙ got) ne
    ]

pub each_set : {A : Type 0} (P : ℕ → A → Type 0) (xs : List A) (i : ℕ) (y : A) →
    ((j : ℕ) (x : A) → slice_get xs j ≡ Some x → P j x) → P i y →
    (j : ℕ) (x : A) → slice_get (set xs i y) j ≡ Some x → P j x
each_set P xs i y each holds = each_set_but P xs i y (λ j x got _. each j x got) holds

-- nothing is past the end
pub nothing_past : {A : Type 0} (Q : A → Type 0) (xs : List A) (i : ℕ) → length xs ≤ i → (x : A) → slice_get xs i ≡ Some x → Q x
nothing_past Q xs i past x got = absurd (none-some x (sym (slice_get_past xs i past) ∙ got))

-- what holds of each element, and of one more, holds of each with that one
pub each_more : {A : Type 0} (P : A → Type 0) (xs : List A) (y : A) →
    ((j : ℕ) (x : A) → slice_get xs j ≡ Some x → P x) → P y →
    (j : ℕ) (x : A) → slice_get (xs ++ y ∷ []) j ≡ Some x → P x
each_more P [] y each holds zero x got = subst P (same_Some y x got) holds
each_more P [] y each holds (suc j) x got = absurd (none-some x got)
each_more P (z ∷ xs) y each holds zero x got = each zero x got
each_more P (z ∷ xs) y each holds (suc j) x got = each_more P xs y (λ i. each (suc i)) holds j x got

-- what holds of the value of a place holds of each value that it is seen to have
pub only_there : {A : Type 0} (P : A → Type 0) (xs : List A) (i : ℕ) (x : A) → slice_get xs i ≡ Some x → P x → (y : A) → slice_get xs i ≡ Some y → P y
only_there P xs i x there holds y got = subst P (same_Some x y (sym there ∙ got)) holds

pub get_set_here : {A : Type 0} (xs : List A) (i : ℕ) (y : A) → i < length xs → slice_get (set xs i y) i ≡ Some y
get_set_here [] i y lt = absurd (omega (arith, lt))
get_set_here (x ∷ xs) zero y lt = refl
get_set_here (x ∷ xs) (suc i) y lt = get_set_here xs i y (omega (arith, lt))
