-- The bytes of lines, part by part.
use Rattle.std.proofs.Common.{◌≡◌, ℕ, zero, suc, ◌+◌, ◌-◌, ◌<◌, ◌≤◌, min, List, [], ◌∷◌, ◌++◌, length, get_or, take, drop, map, ap, ◌∙◌, arith, append-nil}
use Rattle.std.specs.List.{concat}
use Rattle.std.proofs.lemmas.Grind.{common_steps, take_at_read}
use Rattle.std.proofs.lemmas.List.{map-append}
use Rattle.std.proofs.lemmas.List.Folds.{concat-append}

pub concat-map-append : {X : Type 0} (f : X → List ℕ) (xs ys : List X) → concat (map f (xs ++ ys)) ≡ concat (map f xs) ++ concat (map f ys)
concat-map-append f xs ys = ap concat (map-append f xs ys) ∙ concat-append (map f xs) (map f ys)

pub concat-map-more : {X : Type 0} (f : X → List ℕ) (xs : List X) (i : ℕ) (d : X) → i < length xs → concat (map f (take (i + 1) xs)) ≡ concat (map f (take i xs)) ++ f (get_or xs i d)
concat-map-more f xs i d h =
    ap (λ ys. concat (map f ys)) (take_at_read xs i d h).1 ∙ concat-map-append f (take i xs) (get_or xs i d ∷ []) ∙ ap (λ zs. concat (map f (take i xs)) ++ zs) (append-nil (f (get_or xs i d)))

pub take-of-two : {X : Type 0} (xs ys : List X) (n : ℕ) → take n (xs ++ ys) ≡ take (min n (length xs)) xs ++ take (n - min n (length xs)) ys
take-of-two [] ys n = grind (arith, common_steps)
take-of-two (x ∷ xs) ys zero = grind (arith, common_steps)
take-of-two (x ∷ xs) ys (suc n) =
    let short : min (suc n) (length (x ∷ xs)) ≡ suc (min n (length xs)) = omega arith in
    let rest : suc n - suc (min n (length xs)) ≡ n - min n (length xs) = omega arith in
    rw (short, rest) (ap (λ all. x ∷ all) (take-of-two xs ys n))

pub drop-min : {X : Type 0} (xs : List X) (n : ℕ) → drop (min n (length xs)) xs ≡ drop n xs
drop-min xs n = grind (arith, common_steps)

-- the last of a list, but for the first n
pub drop-kept : {X : Type 0} (xs : List X) (n : ℕ) → drop (length xs - (length xs - min n (length xs))) xs ≡ drop n xs
drop-kept xs n = ap (λ m. drop m xs) (omega arith) ∙ drop-min xs n

-- the last of a list, but for the first n
pub drop-less : {X : Type 0} (xs : List X) (n : ℕ) → n ≤ length xs → drop (length xs - (length xs - n)) xs ≡ drop n xs
drop-less xs n within = ap (λ m. drop m xs) (omega (arith, within))
