-- Sizes of lines of which parts were added or removed.
use Rattle.std.proofs.Common.{◌≡◌, ℕ, ◌+◌, ◌<◌, ◌≤◌, List, [], ◌∷◌, length, get_or, take, drop, map, refl, ap, sym, ◌∙◌, arith, length-append}
use Rattle.std.specs.List.{concat, sum_by}
use Rattle.std.proofs.lemmas.List.Sums.{sum_by-cons, sum_by_more, sum_by_more_le, sum_by-take-drop}
use Rattle.outboxes.specs.Backlogs.{size_of}

pub size-map : {X : Type 0} (f : X → List ℕ) (xs : List X) → size_of (map f xs) ≡ sum_by (λ x. length (f x)) xs
size-map f [] = refl
size-map f (x ∷ xs) =
    sum_by-cons length (f x) (map f xs) ∙ ap (λ n. length (f x) + n) (size-map f xs) ∙ sym (sum_by-cons (λ y. length (f y)) x xs)

pub size-map-more : {X : Type 0} (f : X → List ℕ) (xs : List X) (i : ℕ) (d : X) → i < length xs → size_of (map f (take (i + 1) xs)) ≡ size_of (map f (take i xs)) + length (f (get_or xs i d))
size-map-more f xs i d h =
    size-map f (take (i + 1) xs) ∙ sum_by_more (λ x. length (f x)) xs i d h ∙ ap (λ n. n + length (f (get_or xs i d))) (sym (size-map f (take i xs)))

pub size-map-le : {X : Type 0} (f : X → List ℕ) (xs : List X) (i : ℕ) (d : X) → i < length xs → size_of (map f (take i xs)) + length (f (get_or xs i d)) ≤ size_of (map f xs)
size-map-le f xs i d h =
    omega (arith, size-map f xs, size-map f (take i xs), sum_by_more_le (λ x. length (f x)) xs i d h)

pub size-map-parts : {X : Type 0} (f : X → List ℕ) (xs : List X) (i : ℕ) → size_of (map f xs) ≡ size_of (map f (take i xs)) + size_of (map f (drop i xs))
size-map-parts f xs i =
    omega (arith, size-map f xs, size-map f (take i xs), size-map f (drop i xs), sum_by-take-drop (λ x. length (f x)) xs i)

pub length-concat : (lines : List (List ℕ)) → length (concat lines) ≡ size_of lines
length-concat [] = refl
length-concat (line ∷ lines) =
    length-append line (concat lines) ∙ ap (λ n. length line + n) (length-concat lines) ∙ sym (sum_by-cons length line lines)
