-- A list of one.
use Rattle.std.specs.Prelude.{◌↔◌, IsTrue, Bool}
use Rattle.std.specs.Bool.{Decides}
use Rattle.std.specs.Str.{bytes_eq}
use Rattle.std.proofs.lemmas.Slice.Eq.{bytes_eq-Decides}
use Rattle.std.proofs.Common.{◌≡◌, ◌∙◌, subst, sym, ap, ℕ, ◌<◌, ◌≤◌, List, [], ◌∷◌, length, get_or, map, arith}

-- the only element makes the list
pub only_one : {A B : Type 0} (f : A → B) (xs : List A) (x : A) → 1 ≤ length xs → length xs < 2 → x ≡ get_or xs 0 x → map f xs ≡ f x ∷ []
only_one f [] x some few is = absurd (omega arith)
only_one f (y ∷ []) x some few is = ap (λ z. f z ∷ []) (sym is)
only_one f (y ∷ z ∷ xs) x some few is = absurd (omega arith)

-- words that are one word are this text where that word is
pub one_is : (words : List (List ℕ)) (word seen text : List ℕ) (b : Bool) → words ≡ word ∷ [] → seen ≡ word → b ≡ bytes_eq seen text → IsTrue b ↔ (words ≡ text ∷ [])
one_is words word seen text b one same told =
    let tells : Decides (bytes_eq word text) (word ≡ text) = bytes_eq-Decides word text in
    let b_is : b ≡ bytes_eq word text = told ∙ ap (λ xs. bytes_eq xs text) same in
    (λ yes. one ∙ ap (λ xs. xs ∷ []) (tells.0 (subst IsTrue b_is yes)), λ e. subst IsTrue (sym b_is) (tells.1 (let h : word ∷ [] ≡ text ∷ [] = sym one ∙ e in cc h)))

-- the only two elements make the list
pub only_two : {A B : Type 0} (f : A → B) (xs : List A) (x y : A) → 2 ≤ length xs → length xs < 3 → x ≡ get_or xs 0 x → y ≡ get_or xs 1 y → map f xs ≡ f x ∷ f y ∷ []
only_two f [] x y some few first second = absurd (omega arith)
only_two f (z ∷ []) x y some few first second = absurd (omega arith)
only_two f (z ∷ w ∷ []) x y some few first second = ap (λ v. f v ∷ f w ∷ []) (sym first) ∙ ap (λ v. f x ∷ f v ∷ []) (sym second)
only_two f (z ∷ w ∷ u ∷ xs) x y some few first second = absurd (omega arith)

-- words whose first is this text
pub first_is : (words : List (List ℕ)) (word seen text path : List ℕ) (b : Bool) → words ≡ word ∷ path ∷ [] → seen ≡ word → b ≡ bytes_eq seen text → IsTrue b → words ≡ text ∷ path ∷ []
first_is words word seen text path b two same told holds =
    let tells : Decides (bytes_eq word text) (word ≡ text) = bytes_eq-Decides word text in
    let b_is : b ≡ bytes_eq word text = told ∙ ap (λ xs. bytes_eq xs text) same in
    two ∙ ap (λ xs. xs ∷ path ∷ []) (tells.0 (subst IsTrue b_is holds))
