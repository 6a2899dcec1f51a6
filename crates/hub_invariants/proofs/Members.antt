-- Which numbers are in a list, as a test.
use Rattle.std.proofs.Common.{◌≡◌, ◌∙◌, sym, ap, ap₂, refl, ℕ, Bool, true, false, not, ◌&&◌, ◌||◌, List, [], ◌∷◌, ◌++◌, filter, cond, eqb, arith}
use Rattle.std.proofs.lemmas.Bool.{eqb-true, eq-eqb}
use Rattle.std.specs.List.{list_any}

abbrev pub has : ℕ → List ℕ → Bool
has d xs = list_any (λ x. eqb x d) xs

or-assoc : (a b c : Bool) → (a || b || c) ≡ (a || (b || c))
or-assoc a b c = grind arith

pub has-append : (d : ℕ) (xs ys : List ℕ) → has d (xs ++ ys) ≡ (has d xs || has d ys)
has-append d [] ys = refl
has-append d (x ∷ xs) ys = ap (λ b. eqb x d || b) (has-append d xs ys) ∙ sym (or-assoc (eqb x d) (has d xs) (has d ys))

pub and-false : (b : Bool) → (b && false) ≡ false
and-false b = grind arith

kept : (p : ℕ → Bool) (d x : ℕ) (xs : List ℕ) (keep same : Bool) → p x ≡ keep → eqb x d ≡ same → has d (filter p xs) ≡ (has d xs && p d)
    → has d (cond keep (x ∷ filter p xs) (filter p xs)) ≡ ((eqb x d || has d xs) && p d)
kept p d x xs keep same is-kept is-same rest = grind arith

-- those that pass a test
pub has-filter : (p : ℕ → Bool) (d : ℕ) (xs : List ℕ) → has d (filter p xs) ≡ (has d xs && p d)
has-filter p d [] = refl
has-filter p d (x ∷ xs) = kept p d x xs (p x) (eqb x d) refl refl (has-filter p d xs)

-- each number once
abbrev pub apart : List ℕ → Bool
apart [] = true
apart (x ∷ xs) = not (has x xs) && apart xs

pub both : (a b : Bool) → (a && b) ≡ true → (a ≡ true) × (b ≡ true)
both a b e = grind arith

apart-kept : (p : ℕ → Bool) (x : ℕ) (xs : List ℕ) (keep there : Bool) → has x xs ≡ there → not there ≡ true → apart (filter p xs) ≡ true
    → apart (cond keep (x ∷ filter p xs) (filter p xs)) ≡ true
apart-kept p x xs keep there is fresh rest = grind (arith, has-filter)

pub apart-filter : (p : ℕ → Bool) (xs : List ℕ) → apart xs ≡ true → apart (filter p xs) ≡ true
apart-filter p [] e = refl
apart-filter p (x ∷ xs) e =
    let tests = both (not (has x xs)) (apart xs) e in
    apart-kept p x xs (p x) (has x xs) refl tests.0 (apart-filter p xs tests.1)

other-end : (x d : ℕ) (xs : List ℕ) (there same : Bool) → has x xs ≡ there → eqb d x ≡ same → not there ≡ true → has d (x ∷ xs) ≡ false → has x (xs ++ d ∷ []) ≡ false
other-end x d xs there same is is-same fresh none = grind (arith, eqb-true, eq-eqb, has-append)

pub or-parts : (a b : Bool) → (a || b) ≡ false → (a ≡ false) × (b ≡ false)
or-parts a b e = grind arith

-- one more, that is not there
pub apart-push : (d : ℕ) (xs : List ℕ) → has d xs ≡ false → apart xs ≡ true → apart (xs ++ d ∷ []) ≡ true
apart-push d [] none e = refl
apart-push d (x ∷ xs) none e =
    let tests = both (not (has x xs)) (apart xs) e in
    ap₂ (λ a b. not a && b) (other-end x d xs (has x xs) (eqb d x) refl refl tests.0 none) (apart-push d xs (or-parts (eqb x d) (has d xs) none).1 tests.1)
