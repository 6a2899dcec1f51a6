-- Words that hold no blank, joined by blanks and split again.
use Rattle.std.proofs.Common.{◌≡◌, ℕ, ◌/◌, ◌%◌, true, false, List, [], ◌∷◌, All, refl, sym, ap, subst, ◌∙◌, inl, inr, arith}
use Rattle.std.specs.List.{onto_first, join_with_byte, flat_map}
use Rattle.std.proofs.lemmas.Bool.{cases_Bool}
use Rattle.std.proofs.lemmas.Bool.Decides.{nat_tests}
use Rattle.std.proofs.lemmas.List.Elements.{All-nil, All-cons, All-head, All-tail}
use Rattle.std.proofs.lemmas.List.Splits.{slice_split_none, slice_split_at, slice_split-cons_yes, slice_split-cons_no}
use Rattle.adc_base32.specs.Digits.{digit_of}
use Rattle.adc_base32.specs.Sids.{sid_text}
use Rattle.adc_line.specs.Grammar.{IsCommand, IsCid, Part, part_text, IsPart, IsFeatureWord}
use Rattle.adc_line.specs.Header.{letter, is_letter, is_letter_or_digit, is_sign}
use Rattle.adc_line.specs.Words.{blank, is_blank, words}
use Rattle.adc_line.specs.declared.header.Kind.{Kind}
use Rattle.adc_line.specs.declared.header.Kind.TheVariants.{Broadcast, Client, Direct, Echo, Feature, Hub, Info, Udp}

abbrev pub HasNoBlank : List ℕ → Type 0
HasNoBlank word = All (λ b. is_blank b ≡ false) word

-- words that were joined are split again
pub words-joined : (first : List ℕ) (more : List (List ℕ)) → All HasNoBlank (first ∷ more) → words (join_with_byte blank (first ∷ more)) ≡ first ∷ more
words-joined first [] h = slice_split_none is_blank first (All-head HasNoBlank first [] h)
words-joined first (next ∷ more) h =
    slice_split_at is_blank first blank (join_with_byte blank (next ∷ more)) (All-head HasNoBlank first (next ∷ more) h) refl
    ∙ ap (λ ws. first ∷ ws) (words-joined next more (All-tail HasNoBlank first (next ∷ more) h))

-- what was split holds none
onto_first-All : (b : ℕ) (ws : List (List ℕ)) → is_blank b ≡ false → All HasNoBlank ws → All HasNoBlank (onto_first b ws)
onto_first-All b [] plain h = All-cons HasNoBlank (b ∷ []) [] (All-cons (λ x. is_blank x ≡ false) b [] plain (All-nil (λ x. is_blank x ≡ false))) (All-nil HasNoBlank)
onto_first-All b (word ∷ ws) plain h =
    All-cons HasNoBlank (b ∷ word) ws (All-cons (λ x. is_blank x ≡ false) b word plain (All-head HasNoBlank word ws h)) (All-tail HasNoBlank word ws h)

pub words-HasNoBlank : (text : List ℕ) → All HasNoBlank (words text)
words-HasNoBlank [] = All-cons HasNoBlank [] [] (All-nil (λ x. is_blank x ≡ false)) (All-nil HasNoBlank)
words-HasNoBlank (b ∷ text) =
    elim (cases_Bool (is_blank b)) [
      | inl yes' ↦ subst (All HasNoBlank) (sym (slice_split-cons_yes is_blank b text yes')) (All-cons HasNoBlank [] (words text) (All-nil (λ x. is_blank x ≡ false)) (words-HasNoBlank text))
      | inr no' ↦ subst (All HasNoBlank) (sym (slice_split-cons_no is_blank b text no')) (onto_first-All b (words text) no' (words-HasNoBlank text))
    ]

-- ---- the words of a header hold none

letter-no_blank : (c : ℕ) → is_letter c ≡ true → is_blank c ≡ false
letter-no_blank c h = grind (arith, nat_tests)

letter_or_digit-no_blank : (c : ℕ) → is_letter_or_digit c ≡ true → is_blank c ≡ false
letter_or_digit-no_blank c h = grind (arith, nat_tests)

sign-no_blank : (c : ℕ) → is_sign c ≡ true → is_blank c ≡ false
sign-no_blank c h = grind (arith, nat_tests)

digit-no_blank : (value : ℕ) → is_blank (digit_of value) ≡ false
unfolding digit_of
digit-no_blank value = grind (arith, nat_tests)

kind-no_blank : (kind : Kind) → is_blank (letter kind) ≡ false
kind-no_blank Broadcast = refl
kind-no_blank Client = refl
kind-no_blank Direct = refl
kind-no_blank Echo = refl
kind-no_blank Feature = refl
kind-no_blank Hub = refl
kind-no_blank Info = refl
kind-no_blank Udp = refl

one_more : (b : ℕ) (word : List ℕ) → is_blank b ≡ false → HasNoBlank word → HasNoBlank (b ∷ word)
one_more b word plain h = All-cons (λ x. is_blank x ≡ false) b word plain h

pub first_word-no_blank : (kind : Kind) (command : List ℕ) → IsCommand command → HasNoBlank (letter kind ∷ command)
first_word-no_blank kind command h =
    one_more (letter kind) command (kind-no_blank kind)
    (subst HasNoBlank (sym h.3) (one_more h.0 (h.1 ∷ h.2 ∷ []) (letter-no_blank h.0 h.4) (one_more h.1 (h.2 ∷ []) (letter_or_digit-no_blank h.1 h.5) (one_more h.2 [] (letter_or_digit-no_blank h.2 h.6) (All-nil (λ x. is_blank x ≡ false))))))

pub sid_text-no_blank : (n : ℕ) → HasNoBlank (sid_text n)
sid_text-no_blank n =
    let a = n / 32768 in
    let b = n / 1024 % 32 in
    let c = n / 32 % 32 in
    let d = n % 32 in
    one_more (digit_of a) (digit_of b ∷ digit_of c ∷ digit_of d ∷ []) (digit-no_blank a)
    (one_more (digit_of b) (digit_of c ∷ digit_of d ∷ []) (digit-no_blank b)
    (one_more (digit_of c) (digit_of d ∷ []) (digit-no_blank c) (one_more (digit_of d) [] (digit-no_blank d) (All-nil (λ x. is_blank x ≡ false)))))

pub cid-no_blank : (word : List ℕ) → IsCid word → HasNoBlank word
cid-no_blank word h = λ k d lt. let digit = h.1 k d lt in ap is_blank digit.2 ∙ digit-no_blank digit.0

parts-no_blank : (parts : List Part) → All IsPart parts → HasNoBlank (flat_map part_text parts)
parts-no_blank [] h = All-nil (λ x. is_blank x ≡ false)
parts-no_blank (part ∷ parts) h =
    let tests = All-head IsPart part parts h in
    let more = flat_map part_text parts in
    one_more part.sign (part.a ∷ part.b ∷ part.c ∷ part.d ∷ more) (sign-no_blank part.sign tests.0)
    (one_more part.a (part.b ∷ part.c ∷ part.d ∷ more) (letter-no_blank part.a tests.1)
    (one_more part.b (part.c ∷ part.d ∷ more) (letter_or_digit-no_blank part.b tests.2)
    (one_more part.c (part.d ∷ more) (letter_or_digit-no_blank part.c tests.3)
    (one_more part.d more (letter_or_digit-no_blank part.d tests.4) (parts-no_blank parts (All-tail IsPart part parts h))))))

pub feature_word-no_blank : (word : List ℕ) → IsFeatureWord word → HasNoBlank word
feature_word-no_blank word h = subst HasNoBlank (sym h.1.1) (parts-no_blank h.1.0 h.1.2)
