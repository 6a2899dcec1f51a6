-- Texts that are split at their first blank.
use Rattle.std.proofs.Common.{◌≡◌, ◌∙◌, ap, refl, sym, ℕ, suc, ◌+◌, ◌-◌, ◌≤◌, Bool, true, false, cond, ltb, List, [], ◌∷◌, ◌++◌, length, take, drop, Option, Some, None, ◌⊎◌, inl, inr, arith}
use Rattle.std.proofs.lemmas.Bool.{eqb-true, ltb-false}
use Rattle.std.proofs.lemmas.List.{drop_all, take_all, take_rest}
use Rattle.std.proofs.lemmas.Option.{cond_some, none-some, same_Some}
use Rattle.std.proofs.lemmas.Slice.Eq.{bytes_eq-Decides}
use Rattle.std.specs.List.{AllByRecursion, after_first, before_first, position_or_len}
use Rattle.std.specs.Option.{option_map}
use Rattle.std.specs.Str.{bytes_eq}
use Rattle.history_check.specs.Reading.{behind_word, first_word, is_blank}
use Rattle.history_check.specs.Text.{words}

-- a text with no blank in it
abbrev pub NoBlank : List ℕ → Type 0
NoBlank word = AllByRecursion (λ c. is_blank c ≡ false) word

-- ---- what follows a blank

pub first-blank : (word rest : List ℕ) → NoBlank word → first_word (word ++ 32 ∷ rest) ≡ word
unfolding first_word
first-blank [] rest none = refl
first-blank (c ∷ word) rest none = rw none.0 (ap (λ (w : List ℕ). c ∷ w) (first-blank word rest none.1))

pub behind-blank : (word rest : List ℕ) → NoBlank word → behind_word (word ++ 32 ∷ rest) ≡ rest
unfolding behind_word
behind-blank [] rest none = refl
behind-blank (c ∷ word) rest none = rw none.0 (behind-blank word rest none.1)

pub first-all : (word : List ℕ) → NoBlank word → first_word word ≡ word
unfolding first_word
first-all [] none = refl
first-all (c ∷ word) none = rw none.0 (ap (λ (w : List ℕ). c ∷ w) (first-all word none.1))

pub behind-none : (word : List ℕ) → NoBlank word → behind_word word ≡ []
unfolding behind_word
behind-none [] none = refl
behind-none (c ∷ word) none = rw none.0 (behind-none word none.1)

pub first-nil : first_word [] ≡ []
unfolding first_word
first-nil = refl

pub behind-nil : behind_word [] ≡ []
unfolding behind_word
behind-nil = refl

-- ---- a text is its first word and what follows it

abbrev pub IsCut : List ℕ → List ℕ → List ℕ → Type 0
IsCut text word behind = (text ≡ words (word ∷ behind ∷ [])) ⊎ ((text ≡ word) × (behind ≡ []))

cut-more : (c : ℕ) (text word behind : List ℕ) → IsCut text word behind → IsCut (c ∷ text) (c ∷ word) behind
cut-more c text word behind (inl is) = inl (ap (λ (w : List ℕ). c ∷ w) is)
cut-more c text word behind (inr is) = inr (ap (λ (w : List ℕ). c ∷ w) is.0, is.1)

cut-at : (c : ℕ) (text : List ℕ) (b : Bool) → is_blank c ≡ b → IsCut text (first_word text) (behind_word text)
    → IsCut (c ∷ text) (cond b [] (c ∷ first_word text)) (cond b text (behind_word text))
cut-at c text true is cut = inl (ap (λ (x : ℕ). x ∷ text) (eqb-true c 32 is))
cut-at c text false is cut = cut-more c text (first_word text) (behind_word text) cut

pub cut : (text : List ℕ) → IsCut text (first_word text) (behind_word text)
unfolding first_word behind_word
cut [] = inr (refl, refl)
cut (c ∷ text) = cut-at c text (is_blank c) refl (cut text)

-- a blank stands there if something that an empty text is not follows it
pub cut-filled : (text : List ℕ) → (behind_word text ≡ [] → ⊥) → text ≡ words (first_word text ∷ behind_word text ∷ [])
cut-filled text filled = elim (cut text) [ inl is ↦ is | inr is ↦ absurd (filled is.1) ]

-- ---- as the place of the first blank has it

before-more : (c : ℕ) (text : List ℕ) → is_blank c ≡ false → before_first is_blank (c ∷ text) ≡ c ∷ before_first is_blank text
before-more c text is =
    let next : 1 + position_or_len is_blank text ≡ suc (position_or_len is_blank text) = omega arith in
    rw (is, next) refl

after-more : (c : ℕ) (text : List ℕ) → is_blank c ≡ false → after_first is_blank (c ∷ text) ≡ after_first is_blank text
after-more c text is =
    let next : 1 + position_or_len is_blank text + 1 ≡ suc (position_or_len is_blank text + 1) = omega arith in
    rw (is, next) refl

first-at : (c : ℕ) (text : List ℕ) (b : Bool) → is_blank c ≡ b → first_word text ≡ before_first is_blank text
    → cond b [] (c ∷ first_word text) ≡ before_first is_blank (c ∷ text)
first-at c text true is so = rw is refl
first-at c text false is so = ap (λ (w : List ℕ). c ∷ w) so ∙ sym (before-more c text is)

pub first-before : (text : List ℕ) → first_word text ≡ before_first is_blank text
unfolding first_word
first-before [] = refl
first-before (c ∷ text) = first-at c text (is_blank c) refl (first-before text)

behind-at : (c : ℕ) (text : List ℕ) (b : Bool) → is_blank c ≡ b → behind_word text ≡ after_first is_blank text
    → cond b text (behind_word text) ≡ after_first is_blank (c ∷ text)
behind-at c text true is so = rw is refl
behind-at c text false is so = so ∙ sym (after-more c text is)

pub behind-after : (text : List ℕ) → behind_word text ≡ after_first is_blank text
unfolding behind_word
behind-after [] = refl
behind-after (c ∷ text) = behind-at c text (is_blank c) refl (behind-after text)

-- ---- as a search for the first blank finds it

abbrev pub Found : List ℕ → Option ℕ → Type 0
Found text r = r ≡ cond (ltb (position_or_len is_blank text) (length text)) (Some (position_or_len is_blank text)) None

found-at : (text : List ℕ) (end : ℕ) (r : Option ℕ) → Found text r → r ≡ Some end → position_or_len is_blank text ≡ end
found-at text end r is some = (cond_some (ltb (position_or_len is_blank text) (length text)) (position_or_len is_blank text) end (sym is ∙ some)).1

pub first-found : (text : List ℕ) (end : ℕ) (r : Option ℕ) → Found text r → r ≡ Some end → take end text ≡ first_word text
first-found text end r is some = ap (λ (n : ℕ). take n text) (sym (found-at text end r is some)) ∙ sym (first-before text)

pub behind-found : (text : List ℕ) (end : ℕ) (r : Option ℕ) → Found text r → r ≡ Some end → take (length text - (end + 1)) (drop (end + 1) text) ≡ behind_word text
behind-found text end r is some =
    take_rest text (end + 1) ∙ ap (λ (n : ℕ). drop (n + 1) text) (sym (found-at text end r is some)) ∙ sym (behind-after text)

missing : (text : List ℕ) (b : Bool) → ltb (position_or_len is_blank text) (length text) ≡ b → None ≡ cond b (Some (position_or_len is_blank text)) None
    → length text ≤ position_or_len is_blank text
missing text true is none = absurd (none-some (position_or_len is_blank text) none)
missing text false is none = ltb-false _ _ is

missing-from : (text : List ℕ) (r : Option ℕ) → Found text r → r ≡ None → length text ≤ position_or_len is_blank text
missing-from text r is none = missing text (ltb (position_or_len is_blank text) (length text)) refl (sym none ∙ is)

pub first-missing : (text : List ℕ) (r : Option ℕ) → Found text r → r ≡ None → text ≡ first_word text
first-missing text r is none = sym (take_all (position_or_len is_blank text) text (missing-from text r is none)) ∙ sym (first-before text)

pub behind-missing : (text : List ℕ) (r : Option ℕ) → Found text r → r ≡ None → [] ≡ behind_word text
behind-missing text r is none =
    let past = missing-from text r is none in
    sym (drop_all (position_or_len is_blank text + 1) text (omega (arith, past))) ∙ sym (behind-after text)

-- ---- words that are compared

pub same-word : (word other : List ℕ) → bytes_eq word other ≡ true → word ≡ other
same-word word other is = (bytes_eq-Decides word other).0 is

-- a choice by a word: it is that word, or one of those that are left
pub chosen : {A B : Type 0} (b : Bool) (x : A) (rest : Option A) (y : A) → cond b (Some x) rest ≡ Some y → (b ≡ true → x ≡ y → B) → (rest ≡ Some y → B) → B
chosen true x rest y e here there = here refl (same_Some _ _ e)
chosen false x rest y e here there = there e

pub chosen-of : {A B : Type 0} (b : Bool) (first rest : Option A) (y : A) → cond b first rest ≡ Some y → (b ≡ true → first ≡ Some y → B) → (rest ≡ Some y → B) → B
chosen-of true first rest y e here there = here refl e
chosen-of false first rest y e here there = there e

pub some-of : {A B : Type 0} (f : A → B) (o : Option A) (y : B) → option_map f o ≡ Some y → (x : A) × (o ≡ Some x) × (f x ≡ y)
some-of f (Some x) y e = (x, refl, same_Some _ _ e)
some-of f None y e = absurd (none-some y e)
