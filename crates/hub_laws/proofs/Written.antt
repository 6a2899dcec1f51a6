-- The lines that the hub writes are words with one blank before each but the first.
use Rattle.std.proofs.Common.{◌≡◌, ◌∙◌, sym, ap, ap₂, refl, subst, ℕ, ◌/◌, ◌%◌, ◌<◌, Bool, true, false, not, ◌&&◌, ◌==◌, List, [], ◌∷◌, ◌++◌, append_assoc, append-nil, length, arith}
use Rattle.std.specs.Fmt.{decimal, digits}
use Rattle.std.specs.List.{flat_map, join_with_byte, list_all}
use Rattle.std.specs.Str.{IsUtf8}
use Rattle.std.proofs.lemmas.Str.{IsUtf8-append}
use Rattle.std.proofs.lemmas.Grind.{flat_map-append}
use Rattle.std.proofs.lemmas.List.Splits.{join_with_byte-slice_split}
use Rattle.std.proofs.lemmas.List.Sums.{AllPass-from_list_all}
use Rattle.adc_base32.specs.Digits.{digit_of}
use Rattle.adc_base32.specs.Sids.{sid_count, sid_text}
use Rattle.adc_line.specs.Escapes.{escaped_text, is_escaped}
use Rattle.adc_line.specs.Frames.{is_lf}
use Rattle.adc_line.specs.Grammar.{IsCommand, IsParameter}
use Rattle.adc_line.specs.Header.{is_letter, is_letter_or_digit}
use Rattle.adc_line.specs.Words.{words}
use Rattle.adc_line.proofs.EscapeLaws.{escaped-unescaped}
use Rattle.adc_line.proofs.EscapeLemmas.{escaped-nil}
use Rattle.adc_line.proofs.FrameLemmas.{not_true}
use Rattle.adc_line.proofs.GrammarLemmas.{both, escaped_is_spelt, parameter_tests}
use Rattle.inf_fields.specs.Cleaning.{dotted_decimal}
use Rattle.inf_fields.specs.Field.{printed_fields}
use Rattle.hub_laws.proofs.Words.{AllByRecursion, Field, eqb-true, false≢true, with_line_feed}
use Rattle.hub_laws.specs.Forms.{IsWholeLine}
use Rattle.hub_laws.proofs.Fields.{address-plain}
use Rattle.hub_laws.proofs.Pieces.{IsGood, IsPlain, IsSolid, IsSpelt, IsTold, blank-utf8, from-all, is_gap, is_plain_byte, letter-digit-plain, letter-plain, onto-plain, plain-before, plain-spelt, plain-utf8, to-all, word_of}
use Rattle.hub_laws.proofs.Secrets.{all-append}

-- ---- parameters

pub some-byte : (b : ℕ) (word : List ℕ) → b ∷ word ≡ [] → ⊥
some-byte b word is = cc

pub parameter-of : (word : List ℕ) → (word ≡ [] → ⊥) → IsSpelt word → IsParameter word
parameter-of word some spelt = (spelt.0, λ none. some (spelt.1 ∙ ap escaped_text none ∙ escaped-nil), spelt.1)

-- a plain name, and a spelling behind it
pub named : (b : ℕ) (name word : List ℕ) → IsPlain (b ∷ name) → IsSpelt word → IsParameter (b ∷ name ++ word)
named b name word plain spelt = parameter-of (b ∷ name ++ word) (some-byte b (name ++ word)) (plain-before (b ∷ name) word plain spelt)

pub plain-parameter : (b : ℕ) (word : List ℕ) → IsPlain (b ∷ word) → IsParameter (b ∷ word)
plain-parameter b word plain = parameter-of (b ∷ word) (some-byte b word) (plain-spelt (b ∷ word) plain)

pub text-spelt : (text : List ℕ) → IsSpelt (escaped_text text)
text-spelt text = (text, refl)

pub decimal-spelt : (n : ℕ) → IsSpelt (decimal n)
unfolding digits
decimal-spelt n = plain-spelt _ (onto-plain 64 n [] tt)

pub address-spelt : (peer : List ℕ) → IsSpelt (dotted_decimal peer)
address-spelt peer = plain-spelt _ (address-plain peer)

pub digit-plain : (value : ℕ) → value < 32 → is_plain_byte (digit_of value) ≡ true
unfolding digit_of
digit-plain value small = grind arith

pub sid-plain : (n : ℕ) → n < sid_count → IsPlain (sid_text n)
sid-plain n small = (
  digit-plain (n / 32768) (omega (arith, small)),
  (digit-plain (n / 1024 % 32) (omega arith), (digit-plain (n / 32 % 32) (omega arith), (digit-plain (n % 32) (omega arith), tt))),
)

pub sid-parameter : (n : ℕ) → n < sid_count → IsParameter (sid_text n)
sid-parameter n small = plain-parameter _ _ (sid-plain n small)

pub field-parameter : (f : Field) → IsGood f → IsParameter (word_of f)
field-parameter f good =
    subst (λ (name : List ℕ). IsParameter (name ++ f.value)) (sym good.name)
    (named good.first (good.second ∷ []) f.value (letter-plain good.first good.letter, (letter-digit-plain good.second good.letter_or_digit, tt)) good.value.spelt)

-- ---- words, each behind a blank

abbrev pub behind : List (List ℕ) → List ℕ
behind words = flat_map (λ (word : List ℕ). 32 ∷ word) words

pub joined : (first : List ℕ) (words : List (List ℕ)) → join_with_byte 32 (first ∷ words) ≡ first ++ behind words
joined first [] = sym (append-nil first)
joined first (word ∷ words) = ap (λ (bs : List ℕ). first ++ 32 ∷ bs) (joined word words)

-- the text is parameters, each behind a blank
pub record Told (text : List ℕ) : Type 0 where
  pub params : List (List ℕ)
  pub all : AllByRecursion IsParameter params
  pub is : behind params ≡ text

pub none-told : Told []
none-told = record { params = []; all = tt; is = refl }

pub told : (word more : List ℕ) → IsParameter word → Told more → Told (32 ∷ word ++ more)
told word more one rest = record { params = word ∷ rest.params; all = (one, rest.all); is = ap (λ (bs : List ℕ). 32 ∷ word ++ bs) rest.is }

pub told-last : (word : List ℕ) → IsParameter word → Told (32 ∷ word)
told-last word one = subst (λ (bs : List ℕ). Told (32 ∷ bs)) (append-nil word) (told word [] one none-told)

pub told-both : (text more : List ℕ) → Told text → Told more → Told (text ++ more)
told-both text more first second = record {
  params = first.params ++ second.params;
  all = all-append IsParameter first.params second.params first.all second.all;
  is = flat_map-append (λ (word : List ℕ). 32 ∷ word) first.params second.params ∙ ap₂ ◌++◌ first.is second.is;
}

pub fields-told : (fields : List Field) → AllByRecursion IsTold fields → Told (printed_fields fields)
unfolding printed_fields
fields-told [] all = none-told
fields-told (f ∷ fields) all = told (word_of f) (printed_fields fields) (field-parameter f all.0.0) (fields-told fields all.1)

field-utf8 : (f : Field) → IsGood f → IsUtf8 (word_of f)
field-utf8 f good =
    subst (λ (name : List ℕ). IsUtf8 (name ++ f.value)) (sym good.name)
    (IsUtf8-append (good.first ∷ good.second ∷ []) f.value
    (plain-utf8 (good.first ∷ good.second ∷ []) (letter-plain good.first good.letter, (letter-digit-plain good.second good.letter_or_digit, tt))) good.value.utf8)

pub fields-utf8 : (fields : List Field) → AllByRecursion IsTold fields → IsUtf8 (printed_fields fields)
unfolding printed_fields
fields-utf8 [] all = plain-utf8 [] tt
fields-utf8 (f ∷ fields) all =
    IsUtf8-append (32 ∷ word_of f) (printed_fields fields) (IsUtf8-append (32 ∷ []) (word_of f) blank-utf8 (field-utf8 f all.0.0)) (fields-utf8 fields all.1)

-- ---- texts that are known

abbrev pub is_word : List ℕ → Bool
is_word word = not (length word == 0) && is_escaped word && list_all (λ b. not (is_gap b)) word

-- what the first word and the others of a line of the type I are
abbrev pub is_first : List ℕ → Bool
is_first (i ∷ a ∷ b ∷ c ∷ []) = i == 73 && is_letter a && is_letter_or_digit b && is_letter_or_digit c
is_first word = false

abbrev pub are_words : List (List ℕ) → Bool
are_words [] = false
are_words (first ∷ more) = is_first first && list_all is_word more

no-length : (word : List ℕ) → not (length word == 0) ≡ true → word ≡ [] → ⊥
no-length word some none = false≢true (sym (ap (λ (bs : List ℕ). not (length bs == 0)) none) ∙ some)

pub word-parameter : (word : List ℕ) → is_word word ≡ true → IsParameter word
word-parameter word is =
    let last = both (not (length word == 0) && is_escaped word) (list_all (λ b. not (is_gap b)) word) is in
    let tests = both (not (length word == 0)) (is_escaped word) last.0 in
    let text = escaped_is_spelt word tests.1 (λ k d lt. not_true _ (AllPass-from_list_all (λ b. not (is_gap b)) word last.1 k d lt)) in
    parameter-of word (no-length word tests.0) (text.0, sym (escaped-unescaped word text.0 text.1))

word-parameters : (words : List (List ℕ)) → list_all is_word words ≡ true → AllByRecursion IsParameter words
word-parameters [] is = tt
word-parameters (word ∷ words) is = let tests = both (is_word word) (list_all is_word words) is in (word-parameter word tests.0, word-parameters words tests.1)

command-of : (first : List ℕ) → is_first first ≡ true → (command : List ℕ) × (first ≡ 73 ∷ command) × IsCommand command
command-of (i ∷ a ∷ b ∷ c ∷ []) is =
    let last = both (i == 73 && is_letter a && is_letter_or_digit b) (is_letter_or_digit c) is in
    let third = both (i == 73 && is_letter a) (is_letter_or_digit b) last.0 in
    let second = both (i == 73) (is_letter a) third.0 in
    (a ∷ b ∷ c ∷ [], ap (λ (x : ℕ). x ∷ a ∷ b ∷ c ∷ []) (eqb-true i 73 second.0), (a, b, c, refl, second.1, third.1, last.1))
command-of _ is = absurd (false≢true is)

-- ---- a line of the type I

pub record HubLine (line : List ℕ) : Type 0 where
  pub command : List ℕ
  pub is : IsCommand command
  pub params : List (List ℕ)
  pub all : AllByRecursion IsParameter params
  pub line_is : line ≡ with_line_feed ((73 ∷ command) ++ behind params)

by-words : (ws : List (List ℕ)) → are_words ws ≡ true → (more : List ℕ) → Told more → HubLine (with_line_feed (join_with_byte 32 ws ++ more))
by-words [] is more rest = absurd (false≢true is)
by-words (first ∷ words) is more rest =
    let tests = both (is_first first) (list_all is_word words) is in
    let start = command-of first tests.0 in
    let both-told = told-both (behind words) more (record { params = words; all = word-parameters words tests.1; is = refl }) rest in
    record {
      command = start.0;
      is = start.2;
      params = both-told.params;
      all = both-told.all;
      line_is = ap with_line_feed (ap (λ (bs : List ℕ). bs ++ more) (joined first words) ∙ append_assoc first (behind words) more
          ∙ ap₂ ◌++◌ start.1 (sym both-told.is));
    }

-- a known text, and parameters behind it
pub written : (text : List ℕ) → are_words (words text) ≡ true → (more : List ℕ) → Told more → HubLine (with_line_feed (text ++ more))
written text is more rest = subst (λ (bs : List ℕ). HubLine (with_line_feed (bs ++ more))) (join_with_byte-slice_split 32 text) (by-words (words text) is more rest)

-- ---- no line feed in it

abbrev pub IsClean : List ℕ → Type 0
IsClean bytes = AllByRecursion (λ b. is_lf b ≡ false) bytes

pub solid-clean : (word : List ℕ) → IsSolid word → IsClean word
solid-clean [] solid = tt
solid-clean (b ∷ word) solid = (second-false b solid.0, solid-clean word solid.1)
  where
    second-false : (x : ℕ) → is_gap x ≡ false → is_lf x ≡ false
    second-false x is = grind arith

pub behind-clean : (words : List (List ℕ)) → AllByRecursion IsSolid words → IsClean (behind words)
behind-clean [] all = tt
behind-clean (word ∷ words) all = (refl, all-append (λ b. is_lf b ≡ false) word (behind words) (solid-clean word all.0) (behind-clean words all.1))

pub parameters-solid : (params : List (List ℕ)) → AllByRecursion IsParameter params → AllByRecursion IsSolid params
parameters-solid [] all = tt
parameters-solid (word ∷ params) all = (from-all (λ b. is_gap b ≡ false) word (parameter_tests word all.0).2, parameters-solid params all.1)

pub told-clean : (text : List ℕ) → Told text → IsClean text
told-clean text is = subst IsClean is.is (behind-clean is.params (parameters-solid is.params is.all))

pub clean-line : (text : List ℕ) → IsClean text → IsWholeLine (with_line_feed text)
clean-line text clean = record { text = text; ends = refl; once = to-all (λ b. is_lf b ≡ false) text clean }
