-- Tests of a word, from its front on.
use Rattle.std.proofs.Common.{◌≡◌, ◌≢◌, ℕ, ◌<◌, ◌≤◌, true, false, ◌&&◌, eq-eqb, not, List, [], ◌∷◌, length, get_or, drop, refl, sym, ◌∙◌, ap, ap₂, arith}
use Rattle.std.specs.Prelude.{◌==◌, Bool, is_some}
use Rattle.std.proofs.lemmas.Bool.{cond-true, cond-false, ne_eqb}
use Rattle.std.specs.List.{before_first, after_first, position_or_len}
use Rattle.std.proofs.lemmas.List.Splits.{slice_split_first}
use Rattle.adc_line.proofs.FrameLemmas.{slice_split-whole}
use Rattle.adc_line.specs.Words.{words, is_blank}
use Rattle.adc_line.specs.Escapes.{is_escaped, escape_means}
use Rattle.adc_line.specs.Header.{is_sign, is_named, are_features}

-- where the first blank cuts a text
pub words-cut : (text word rest : List ℕ) → (word ≡ before_first is_blank text) × (rest ≡ after_first is_blank text) × (position_or_len is_blank text < length text) → words text ≡ word ∷ words rest
words-cut text word rest h = slice_split_first is_blank text 0 h.2 ∙ ap₂ (λ x y. x ∷ words y) (sym h.0) (sym h.1)

pub words-whole : (text : List ℕ) → position_or_len is_blank text ≡ length text → words text ≡ text ∷ []
words-whole text e = slice_split-whole is_blank text e

-- a sign and a feature's name begin it
abbrev is_part : List ℕ → Bool
is_part xs = is_sign (get_or xs 0 0) && is_named (get_or xs 1 0) (get_or xs 2 0) (get_or xs 3 0) (get_or xs 4 0)

pub are_features-long : (xs : List ℕ) → 5 ≤ length xs
    → are_features xs ≡ (is_part xs && are_features (drop 5 xs))
unfolding are_features
are_features-long [] h = absurd (omega arith)
are_features-long (_ ∷ []) h = absurd (omega arith)
are_features-long (_ ∷ _ ∷ []) h = absurd (omega arith)
are_features-long (_ ∷ _ ∷ _ ∷ []) h = absurd (omega arith)
are_features-long (_ ∷ _ ∷ _ ∷ _ ∷ []) h = absurd (omega arith)
are_features-long (_ ∷ _ ∷ _ ∷ _ ∷ _ ∷ more) h = refl

pub are_features-short : (xs : List ℕ) → length xs < 5 → are_features xs ≡ (length xs == 0)
unfolding are_features
are_features-short [] h = refl
are_features-short (_ ∷ []) h = refl
are_features-short (_ ∷ _ ∷ []) h = refl
are_features-short (_ ∷ _ ∷ _ ∷ []) h = refl
are_features-short (_ ∷ _ ∷ _ ∷ _ ∷ []) h = refl
are_features-short (_ ∷ _ ∷ _ ∷ _ ∷ _ ∷ more) h = absurd (omega arith)

pub is_escaped-none : (xs : List ℕ) → length xs < 1 → is_escaped xs ≡ true
unfolding is_escaped
is_escaped-none [] h = refl
is_escaped-none (x ∷ xs) h = absurd (omega arith)

pub is_escaped-plain : (xs : List ℕ) → 1 ≤ length xs → get_or xs 0 0 ≢ 92 → is_escaped xs ≡ is_escaped (drop 1 xs)
unfolding is_escaped
is_escaped-plain [] h ne = absurd (omega arith)
is_escaped-plain (x ∷ []) h ne = ap not (ne_eqb x 92 ne)
is_escaped-plain (x ∷ y ∷ more) h ne = cond-false (x == 92) _ _ (ne_eqb x 92 ne)

-- a backslash and what follows it
pub is_escaped-pair : (xs ys : List ℕ) → ys ≡ drop 1 xs → 1 ≤ length xs → get_or xs 0 0 ≡ 92 → 1 ≤ length ys → is_escaped xs ≡ (is_some (escape_means (get_or ys 0 0)) && is_escaped (drop 1 ys))
unfolding is_escaped
is_escaped-pair [] ys same h e more = absurd (omega arith)
is_escaped-pair (x ∷ []) ys same h e more = absurd (omega (arith, ap length same))
is_escaped-pair (x ∷ y ∷ zs) ys same h e more =
    cond-true (x == 92) _ _ (eq-eqb x 92 e) ∙ ap (λ ws. is_some (escape_means (get_or ws 0 0)) && is_escaped (drop 1 ws)) (sym same)

pub is_escaped-cut : (xs : List ℕ) → length xs < 2 → 1 ≤ length xs → get_or xs 0 0 ≡ 92 → is_escaped xs ≡ false
unfolding is_escaped
is_escaped-cut [] h some e = absurd (omega arith)
is_escaped-cut (x ∷ []) h some e = ap not (eq-eqb x 92 e)
is_escaped-cut (x ∷ y ∷ more) h some e = absurd (omega arith)

pub are_features-no : (xs : List ℕ) → 5 ≤ length xs → is_part xs ≡ false → are_features xs ≡ false
are_features-no xs h e = are_features-long xs h ∙ ap (λ b. b && are_features (drop 5 xs)) e

pub are_features-yes : (xs : List ℕ) → 5 ≤ length xs → is_part xs ≡ true → are_features xs ≡ are_features (drop 5 xs)
are_features-yes xs h e = are_features-long xs h ∙ ap (λ b. b && are_features (drop 5 xs)) e

pub is_escaped-no : (xs ys : List ℕ) → ys ≡ drop 1 xs → 1 ≤ length xs → get_or xs 0 0 ≡ 92 → 1 ≤ length ys → is_some (escape_means (get_or ys 0 0)) ≡ false → is_escaped xs ≡ false
is_escaped-no xs ys same h e more bad = is_escaped-pair xs ys same h e more ∙ ap (λ b. b && is_escaped (drop 1 ys)) bad

pub is_escaped-yes : (xs ys : List ℕ) → ys ≡ drop 1 xs → 1 ≤ length xs → get_or xs 0 0 ≡ 92 → 1 ≤ length ys → is_some (escape_means (get_or ys 0 0)) ≡ true → is_escaped xs ≡ is_escaped (drop 1 ys)
is_escaped-yes xs ys same h e more good = is_escaped-pair xs ys same h e more ∙ ap (λ b. b && is_escaped (drop 1 ys)) good
