-- The tests of words, and what the grammar says of them.
use Rattle.std.proofs.Common.{◌≡◌, ◌≢◌, ℕ, ◌<◌, Bool, true, false, not, ◌&&◌, ◌||◌, List, [], ◌∷◌, length, All, ◌⊎◌, inl, inr, refl, sym, ap, ap₂, subst, ◌∙◌, arith}
use Rattle.std.specs.Prelude.{◌==◌, Option, Some, None, is_some, if◌then◌else◌}
use Rattle.std.specs.Option.{option_map, option_and_then}
use Rattle.std.specs.List.{list_all, flat_map}
use Rattle.std.proofs.lemmas.Bool.{cases_Bool, cond-true, cond-false, eqb-true, ne_eqb, false≢true}
use Rattle.std.proofs.lemmas.Bool.Decides.{nat_tests}
use Rattle.std.proofs.lemmas.List.Elements.{All-nil, All-cons, All-head, All-tail}
use Rattle.std.proofs.lemmas.List.Sums.{AllPass-from_list_all, list_all-from_AllPass}
use Rattle.adc_line.specs.declared.header.Kind.{Kind}
use Rattle.adc_line.specs.declared.header.Kind.TheVariants.{Broadcast, Client, Direct, Echo, Feature, Hub, Info, Udp}
use Rattle.adc_line.specs.declared.header.Head.{Head}
use Rattle.adc_base32.specs.Digits.{digit_of, value_at}
use Rattle.adc_base32.specs.Spelled.{is_digit}
use Rattle.adc_base32.proofs.Spelling.{value_at-digit_of, digit_of-value_at}
use Rattle.adc_line.specs.Escapes.{escaped_text, is_special, is_escaped, backslash, escape_means, unescaped_text}
use Rattle.adc_line.specs.Grammar.{IsCommand, IsCid, Part, part_text, IsPart, IsFeatureWord, IsParameter}
use Rattle.adc_line.specs.Header.{letter, is_letter, is_letter_or_digit, kind_at, head_at, is_cid, is_sign, is_named, are_features, is_feature_word}
use Rattle.adc_line.proofs.EscapeLemmas.{plain_is_no_backslash, escaped-nil}
use Rattle.adc_line.proofs.FrameLemmas.{not_true}
use Rattle.adc_line.proofs.EscapeLaws.{unescaped-escaped, escaped-unescaped, parts_of, byte_of}

-- both of two tests
pub both : (x y : Bool) → (x && y) ≡ true → (x ≡ true) × (y ≡ true)
both true y e = (refl, e)
both false y e = absurd (false≢true e)

-- ---- the first word

one_letter : (c n : ℕ) (this kind : Kind) (others : Option Kind) → n ≡ letter this → (others ≡ Some kind → c ≡ letter kind) → (if c == n then Some this else others) ≡ Some kind → c ≡ letter kind
one_letter c n this kind others is more e =
    elim (cases_Bool (c == n)) [
      | inl yes' ↦
          let found : Some this ≡ Some kind = sym (cond-true _ _ _ yes') ∙ e in
          let same : this ≡ kind = cc in
          eqb-true c n yes' ∙ is ∙ ap letter same
      | inr no' ↦ more (sym (cond-false _ _ _ no') ∙ e)
    ]

no_letter : (c : ℕ) (kind : Kind) → None ≡ Some kind → c ≡ letter kind
no_letter c kind e = cc

pub letter_of : (c : ℕ) (kind : Kind) → kind_at c ≡ Some kind → c ≡ letter kind
unfolding kind_at
letter_of c kind e =
    one_letter c 66 Broadcast kind _ refl
    (one_letter c 67 Client kind _ refl
    (one_letter c 68 Direct kind _ refl
    (one_letter c 69 Echo kind _ refl (one_letter c 70 Feature kind _ refl (one_letter c 72 Hub kind _ refl (one_letter c 73 Info kind _ refl (one_letter c 85 Udp kind _ refl (no_letter c kind))))))))
    e

pub kind_at-letter : (kind : Kind) → kind_at (letter kind) ≡ Some kind
unfolding kind_at
kind_at-letter Broadcast = refl
kind_at-letter Client = refl
kind_at-letter Direct = refl
kind_at-letter Echo = refl
kind_at-letter Feature = refl
kind_at-letter Hub = refl
kind_at-letter Info = refl
kind_at-letter Udp = refl

-- ---- escapes: where no blank and no line feed stands bare, the test of a word is that it spells a text

abbrev pub is_gap : ℕ → Bool
is_gap b = b == 32 || b == 10

plain_is_no_gap : (b : ℕ) → is_special b ≡ false → is_gap b ≡ false
plain_is_no_gap b plain = grind (arith, nat_tests)

slash_is_no_gap : (b : ℕ) → (b == backslash) ≡ true → is_gap b ≡ false
slash_is_no_gap b slash = grind (arith, nat_tests)

-- a byte that is no gap and no backslash stands for itself
plain_of : (b : ℕ) → is_gap b ≡ false → (b == backslash) ≡ false → is_special b ≡ false
plain_of b gap other = grind (arith, nat_tests)

-- what ends an escape
ends_no_gap : (c meant : ℕ) → escape_means c ≡ Some meant → is_gap c ≡ false
unfolding escape_means
ends_no_gap c meant e = by_tests (cases_Bool (c == 115)) (cases_Bool (c == 110)) (cases_Bool (c == 92))
  where
    by_tests : ((c == 115) ≡ true) ⊎ ((c == 115) ≡ false) → ((c == 110) ≡ true) ⊎ ((c == 110) ≡ false) → ((c == 92) ≡ true) ⊎ ((c == 92) ≡ false) → is_gap c ≡ false
    by_tests (inl x) y z = grind (arith, nat_tests)
    by_tests (inr x) (inl y) z = grind (arith, nat_tests)
    by_tests (inr x) (inr y) (inl z) = grind (arith, nat_tests)
    by_tests (inr x) (inr y) (inr z) = let bad : None ≡ Some meant = sym (cond-false _ _ _ x ∙ cond-false _ _ _ y ∙ cond-false _ _ _ z) ∙ e in cc

ends_means : (found : Option ℕ) → is_some found ≡ true → (meant : ℕ) × (found ≡ Some meant)
ends_means None e = absurd (false≢true e)
ends_means (Some meant) e = (meant, refl)

pub spelt_is_escaped : (word text : List ℕ) → unescaped_text word ≡ Some text → (is_escaped word ≡ true) × All (λ b. is_gap b ≡ false) word
unfolding unescaped_text is_escaped
spelt_is_escaped [] text e = (refl, All-nil (λ b. is_gap b ≡ false))
spelt_is_escaped (b ∷ []) text e =
    elim (cases_Bool (is_special b)) [
      | inl special ↦ let bad : None ≡ Some text = sym (cond-true _ _ _ special) ∙ e in absurd cc
      | inr plain ↦ (ap not (plain_is_no_backslash b plain), All-cons (λ x. is_gap x ≡ false) b [] (plain_is_no_gap b plain) (All-nil (λ x. is_gap x ≡ false)))
    ]
spelt_is_escaped (b ∷ c ∷ more) text e =
    elim (cases_Bool (b == backslash)) [
      | inl slash ↦
          let parts = parts_of (escape_means c) (unescaped_text more) text (sym (cond-true _ _ _ slash) ∙ e) in
          let rest = spelt_is_escaped more parts.1 parts.3 in
          let apart = ends_no_gap c parts.0 parts.2 in (
            cond-true _ _ _ slash ∙ ap₂ ◌&&◌ (ap is_some parts.2) rest.0,
            All-cons (λ x. is_gap x ≡ false) b (c ∷ more) (slash_is_no_gap b slash) (All-cons (λ x. is_gap x ≡ false) c more apart rest.1),
          )
      | inr other ↦
          let left = sym (cond-false _ _ _ other) ∙ e in
          elim (cases_Bool (is_special b)) [
            | inl special ↦ let bad : None ≡ Some text = sym (cond-true _ _ _ special) ∙ left in absurd cc
            | inr plain ↦
                let parts = byte_of b (unescaped_text (c ∷ more)) text (sym (cond-false _ _ _ plain) ∙ left) in
                let rest = spelt_is_escaped (c ∷ more) parts.0 parts.1 in
                (cond-false _ _ _ other ∙ rest.0, All-cons (λ x. is_gap x ≡ false) b (c ∷ more) (plain_is_no_gap b plain) rest.1)
          ]
    ]

pub escaped_is_spelt : (word : List ℕ) → is_escaped word ≡ true → All (λ b. is_gap b ≡ false) word → (text : List ℕ) × (unescaped_text word ≡ Some text)
unfolding unescaped_text is_escaped
escaped_is_spelt [] e none = ([], refl)
escaped_is_spelt (b ∷ []) e none = (b ∷ [], cond-false _ _ _ (plain_of b (All-head (λ x. is_gap x ≡ false) b [] none) (not_true (b == backslash) e)))
escaped_is_spelt (b ∷ c ∷ more) e none =
    let gap = All-head (λ x. is_gap x ≡ false) b (c ∷ more) none in
    let rest = All-tail (λ x. is_gap x ≡ false) b (c ∷ more) none in
    elim (cases_Bool (b == backslash)) [
      | inl slash ↦
          let tests = both (is_some (escape_means c)) (is_escaped more) (sym (cond-true _ _ _ slash) ∙ e) in
          let meant = ends_means (escape_means c) tests.0 in
          let text = escaped_is_spelt more tests.1 (All-tail (λ x. is_gap x ≡ false) c more rest) in (
            meant.0 ∷ text.0,
            cond-true _ _ _ slash ∙ ap (option_and_then (λ (x : ℕ). option_map (λ (xs : List ℕ). x ∷ xs) (unescaped_text more))) meant.1 ∙ ap (option_map (λ (xs : List ℕ). meant.0 ∷ xs)) text.1,
          )
      | inr other ↦
          let text = escaped_is_spelt (c ∷ more) (sym (cond-false _ _ _ other) ∙ e) rest in
          (b ∷ text.0, cond-false _ _ _ other ∙ cond-false _ _ _ (plain_of b gap other) ∙ ap (option_map (λ (xs : List ℕ). b ∷ xs)) text.1)
    ]

-- ---- parameters

pub IsParameter-of : (word : List ℕ) → not (length word == 0) ≡ true → is_escaped word ≡ true → All (λ b. is_gap b ≡ false) word → IsParameter word
IsParameter-of word some e none =
    let text = escaped_is_spelt word e none in
    let spelt : escaped_text text.0 ≡ word = escaped-unescaped word text.0 text.1 in
    (text.0, λ is. false≢true (sym (ap not (ap (λ (xs : List ℕ). length xs == 0) (sym spelt ∙ ap escaped_text is ∙ escaped-nil))) ∙ some), sym spelt)

some_byte : (word text : List ℕ) → text ≢ [] → unescaped_text word ≡ Some text → not (length word == 0) ≡ true
unfolding unescaped_text
some_byte [] text some e = let is : text ≡ [] = cc in absurd (some is)
some_byte (b ∷ word) text some e = ap not (ne_eqb (length (b ∷ word)) 0 (λ none. omega arith))

pub parameter_tests : (word : List ℕ) → IsParameter word → (not (length word == 0) ≡ true) × (is_escaped word ≡ true) × All (λ b. is_gap b ≡ false) word
parameter_tests word h =
    let read : unescaped_text word ≡ Some h.0 = ap unescaped_text h.2 ∙ unescaped-escaped h.0 in
    let tests = spelt_is_escaped word h.0 read in
    (some_byte word h.0 h.1 read, tests.0, tests.1)

-- ---- the first word

pub map-some : {A B : Type 0} (f : A → B) (o : Option A) (x : B) → option_map f o ≡ Some x → (y : A) × (o ≡ Some y) × (x ≡ f y)
map-some f None x e = cc
map-some f (Some y) x e = let is : f y ≡ x = cc in (y, refl, sym is)

pub guard-holds : {B : Type 0} (test : Bool) (o : Option B) (x : B) → (if test then o else None) ≡ Some x → (test ≡ true) × (o ≡ Some x)
guard-holds true o x e = (refl, e)
guard-holds false o x e = cc

first_word : (l a b c : ℕ) (head : Head) → (if is_letter a && is_letter_or_digit b && is_letter_or_digit c then option_map (λ (kind : Kind). record { kind = kind; command = a ∷ b ∷ c ∷ [] }) (kind_at l) else None) ≡ Some head
    → (l ∷ a ∷ b ∷ c ∷ [] ≡ letter head.kind ∷ head.command) × IsCommand head.command
first_word l a b c head e =
    let tests = guard-holds (is_letter a && is_letter_or_digit b && is_letter_or_digit c) _ head e in
    let last = both (is_letter a && is_letter_or_digit b) (is_letter_or_digit c) tests.0 in
    let firsts = both (is_letter a) (is_letter_or_digit b) last.0 in
    let found = map-some (λ (kind : Kind). record { kind = kind; command = a ∷ b ∷ c ∷ [] }) (kind_at l) head tests.1 in
    let same_kind : head.kind ≡ found.0 = ap (λ (h : Head). h.kind) found.2 in
    let same_command : head.command ≡ a ∷ b ∷ c ∷ [] = ap (λ (h : Head). h.command) found.2 in
    (ap₂ ◌∷◌ (letter_of l found.0 found.1 ∙ ap letter (sym same_kind)) (sym same_command), (a, b, c, same_command, firsts.0, firsts.1, last.1))

not_empty : (word : List ℕ) → not (length word == 0) ≡ true → word ≢ []
not_empty word e is = false≢true (sym (ap (λ (xs : List ℕ). not (length xs == 0)) is) ∙ e)

some_length : (word : List ℕ) → word ≢ [] → not (length word == 0) ≡ true
some_length [] some = absurd (some refl)
some_length (b ∷ word) some = ap not (ne_eqb (length (b ∷ word)) 0 (λ none. omega arith))

-- the parts of which a word is made
parts_in : (word : List ℕ) → are_features word ≡ true → (parts : List Part) × (word ≡ flat_map part_text parts) × All IsPart parts
unfolding are_features
parts_in [] e = ([], refl, All-nil IsPart)
parts_in (_ ∷ []) e = absurd (false≢true e)
parts_in (_ ∷ _ ∷ []) e = absurd (false≢true e)
parts_in (_ ∷ _ ∷ _ ∷ []) e = absurd (false≢true e)
parts_in (_ ∷ _ ∷ _ ∷ _ ∷ []) e = absurd (false≢true e)
parts_in (s ∷ a ∷ b ∷ c ∷ d ∷ more) e =
    let tests = both (is_sign s && is_named a b c d) (are_features more) e in
    let named = both (is_sign s) (is_named a b c d) tests.0 in
    let fourth = both (is_letter a && is_letter_or_digit b && is_letter_or_digit c) (is_letter_or_digit d) named.1 in
    let third = both (is_letter a && is_letter_or_digit b) (is_letter_or_digit c) fourth.0 in
    let firsts = both (is_letter a) (is_letter_or_digit b) third.0 in
    let rest = parts_in more tests.1 in
    let part : Part = record { sign = s; a = a; b = b; c = c; d = d } in
    (part ∷ rest.0, ap (λ (xs : List ℕ). s ∷ a ∷ b ∷ c ∷ d ∷ xs) rest.1, All-cons IsPart part rest.0 (named.0, firsts.0, firsts.1, third.1, fourth.1) rest.2)

are_parts : (parts : List Part) → All IsPart parts → are_features (flat_map part_text parts) ≡ true
unfolding are_features
are_parts [] h = refl
are_parts (part ∷ parts) h =
    let tests = All-head IsPart part parts h in
    ap₂ ◌&&◌ (ap₂ ◌&&◌ tests.0 (ap₂ ◌&&◌ (ap₂ ◌&&◌ (ap₂ ◌&&◌ tests.1 tests.2) tests.3) tests.4)) (are_parts parts (All-tail IsPart part parts h))

pub IsCommand-of : (word : List ℕ) (head : Head) → head_at word ≡ Some head → (word ≡ letter head.kind ∷ head.command) × IsCommand head.command
unfolding head_at
IsCommand-of [] head e = cc
IsCommand-of (_ ∷ []) head e = cc
IsCommand-of (_ ∷ _ ∷ []) head e = cc
IsCommand-of (_ ∷ _ ∷ _ ∷ []) head e = cc
IsCommand-of (l ∷ a ∷ b ∷ c ∷ []) head e = first_word l a b c head e
IsCommand-of (l ∷ a ∷ b ∷ c ∷ d ∷ more) head e =
    let word : List ℕ = l ∷ a ∷ b ∷ c ∷ d ∷ more in
    let tests = guard-holds (length word == 4 && is_letter a && is_letter_or_digit b && is_letter_or_digit c) _ head e in
    let first = both (length word == 4) (is_letter a) (both (length word == 4 && is_letter a) (is_letter_or_digit b) (both (length word == 4 && is_letter a && is_letter_or_digit b) (is_letter_or_digit c) tests.0).0).0 in
    let four : length word ≡ 4 = eqb-true (length word) 4 first.0 in
    absurd (omega arith)

first_spelt : (kind : Kind) (a b c : ℕ) → is_letter a ≡ true → is_letter_or_digit b ≡ true → is_letter_or_digit c ≡ true
    → head_at (letter kind ∷ a ∷ b ∷ c ∷ []) ≡ Some (record { kind = kind; command = a ∷ b ∷ c ∷ [] })
unfolding head_at
first_spelt kind a b c p q r =
    cond-true _ _ _ (ap₂ ◌&&◌ (ap₂ ◌&&◌ p q) r) ∙ ap (option_map (λ (k : Kind). record { kind = k; command = a ∷ b ∷ c ∷ [] })) (kind_at-letter kind)

pub head_at-spelt : (kind : Kind) (command : List ℕ) → IsCommand command → head_at (letter kind ∷ command) ≡ Some (record { kind = kind; command = command })
head_at-spelt kind command h =
    subst (λ (name : List ℕ). head_at (letter kind ∷ name) ≡ Some (record { kind = kind; command = name })) (sym h.3) (first_spelt kind h.0 h.1 h.2 h.4 h.5 h.6)

-- ---- a client's identifier

digit_value : (c : ℕ) → is_digit c ≡ true → (value : ℕ) × (value < 32) × (c ≡ digit_of value)
digit_value c e = by_value (value_at c) refl e
  where
    by_value : (o : Option ℕ) → value_at c ≡ o → is_some o ≡ true → (value : ℕ) × (value < 32) × (c ≡ digit_of value)
    by_value None is some = absurd (false≢true some)
    by_value (Some value) is some = let digit = digit_of-value_at c value is in (value, digit.1, sym digit.0)

pub IsCid-of : (word : List ℕ) → is_cid word ≡ true → IsCid word
unfolding is_cid
IsCid-of word e =
    let tests = both (not (length word == 0)) (list_all is_digit word) e in
    (not_empty word tests.0, λ k d lt. digit_value _ (AllPass-from_list_all is_digit word tests.1 k d lt))

pub is_cid-from : (word : List ℕ) → IsCid word → is_cid word ≡ true
unfolding is_cid
is_cid-from word h = ap₂ ◌&&◌ (some_length word h.0) (list_all-from_AllPass is_digit word (λ k d lt. let digit = h.1 k d lt in ap is_digit digit.2 ∙ ap is_some (value_at-digit_of digit.0 digit.1)))

-- ---- a feature word

pub IsFeatureWord-of : (word : List ℕ) → is_feature_word word ≡ true → IsFeatureWord word
unfolding is_feature_word
IsFeatureWord-of word e =
    let tests = both (not (length word == 0)) (are_features word) e in
    (not_empty word tests.0, parts_in word tests.1)

pub is_feature_word-from : (word : List ℕ) → IsFeatureWord word → is_feature_word word ≡ true
unfolding is_feature_word
is_feature_word-from word h = ap₂ ◌&&◌ (some_length word h.0) (ap are_features h.1.1 ∙ are_parts h.1.0 h.1.2)
