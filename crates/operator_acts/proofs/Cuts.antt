-- The cut of a text into words, which make the text again.
use Rattle.std.proofs.Common.{◌≡◌, ◌∙◌, sym, ap, ap₂, ℕ, ◌<◌, ◌≤◌, List, [], ◌∷◌, length, Option, Some, None, Ok, Bor, not, arith}
use Rattle.std.specs.Prelude.{ok_or, option_copied, unwrap_or}
use Rattle.std.specs.List.{before_first, after_first, position_or_len}
use Rattle.std.proofs.lemmas.Bool.{not-true}
use Rattle.std.proofs.lemmas.List.Sums.{prefix_len_passes}
use Rattle.std.proofs.lemmas.List.Splits.{slice_split_first, slice_split_none, length-slice_split, join_with_byte-slice_split}
use Rattle.operator_acts.specs.declared.fault.ActFault.{ActFault}
use Rattle.operator_acts.specs.Acts.{is_blank, words, words_after, rest_of}

-- where the first blank cuts a text
pub words-cut : (text word rest : List ℕ) → (word ≡ before_first is_blank text) × (rest ≡ after_first is_blank text) × (position_or_len is_blank text < length text) → words text ≡ word ∷ words rest
words-cut text word rest h = slice_split_first is_blank text 0 h.2 ∙ ap₂ (λ x y. x ∷ words y) (sym h.0) (sym h.1)

-- a text with no blank is one word
pub words-whole : (text : List ℕ) → position_or_len is_blank text ≡ length text → words text ≡ text ∷ []
words-whole text e =
    slice_split_none is_blank text (λ k d h. not-true _ (prefix_len_passes (λ b. not (is_blank b)) text k d (omega arith)))

-- the rest of a text is the text, and empty where there is none
pub rest-whole : (rest : Option (Bor (List ℕ))) (empty text : Bor (List ℕ)) → empty.now ≡ [] → text ≡ unwrap_or rest empty → text.now ≡ rest_of (words_after (option_copied rest))
rest-whole None empty text is given = ap (λ t. t.now) given ∙ is
rest-whole (Some there) empty text is given = ap (λ t. t.now) given ∙ sym (join_with_byte-slice_split 32 there.now)

-- words that are there
pub arguments-there : (arguments : Option (Bor (List ℕ))) (fault : ActFault) (text : Bor (List ℕ)) → ok_or arguments fault ≡ Ok text → words_after (option_copied arguments) ≡ words text.now
arguments-there None fault text is = cc
arguments-there (Some given) fault text is = let e : given ≡ text = cc in ap (λ t. words t.now) e

pub some-word : (text : List ℕ) → 1 ≤ length (words text)
some-word text = omega (arith, length-slice_split is_blank text)
