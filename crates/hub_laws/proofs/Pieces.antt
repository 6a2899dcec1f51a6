-- The words of the lines by which a hub tells of users, and the first word of each other line.
use Rattle.std.proofs.Common.{◌≡◌, ◌∙◌, sym, ap, ap₂, refl, subst, ℕ, zero, suc, ◌+◌, ◌/◌, ◌%◌, ◌<◌, Bool, true, false, not, ◌&&◌, ◌||◌, ◌==◌, List, [], ◌∷◌, ◌++◌, append_assoc, append-nil, map, filter, cond, All, nat_lt, arith}
use Rattle.std.specs.Prelude.{Option, Some, None, codes, if◌then◌else◌}
use Rattle.std.specs.Fmt.{digits_onto}
use Rattle.std.specs.List.{onto_first}
use Rattle.std.specs.Str.{IsAscii, IsUtf8}
use Rattle.std.proofs.lemmas.Str.{IsUtf8-from_ascii}
use Rattle.std.proofs.lemmas.List.Elements.{All-nil, All-cons, All-head, All-tail}
use Rattle.std.proofs.lemmas.List.Splits.{slice_split_at, slice_split-cons_no}
use Rattle.adc_base32.specs.Digits.{digit_of}
use Rattle.adc_base32.specs.Sids.{sid_text}
use Rattle.adc_line.specs.Escapes.{escaped_text, is_special}
use Rattle.adc_line.specs.Frames.{is_lf}
use Rattle.adc_line.specs.Header.{is_letter, is_letter_or_digit}
use Rattle.adc_line.specs.Words.{is_blank}
use Rattle.adc_line.proofs.EscapeLaws.{read_back}
use Rattle.adc_line.proofs.EscapeLemmas.{escaped-cons, escaped-nil, escaped_byte-plain}
use Rattle.adc_line.proofs.GrammarLemmas.{spelt_is_escaped}
use Rattle.inf_fields.specs.Field.{printed_fields}
use Rattle.inf_fields.specs.FieldNames.{client_type_name}
use Rattle.inf_fields.specs.Updates.{field_in, is_named}
use Rattle.hub_rules.specs.Texts.{ban_field, removal_line, text_field, update_line}
use Rattle.hub_laws.proofs.Words.{ConfiguredAccount, AllByRecursion, Field, bytes_eq, bytes_eq-Decides, client_type, field, is_called, quit_line, user_line}
use Rattle.hub_laws.specs.Lists.{Listing, fields_told, heard, heard_words, pieces, with_user, without_user}

-- what stands between words
abbrev pub is_gap : ℕ → Bool
is_gap b = is_blank b || is_lf b

-- a word has no such byte
abbrev pub IsSolid : List ℕ → Type 0
IsSolid word = AllByRecursion (λ b. is_gap b ≡ false) word

pub to-all : {X : Type 0} (P : X → Type 0) (xs : List X) → AllByRecursion P xs → All P xs
to-all P [] all = All-nil P
to-all P (x ∷ xs) all = All-cons P x xs all.0 (to-all P xs all.1)

pub from-all : {X : Type 0} (P : X → Type 0) (xs : List X) → All P xs → AllByRecursion P xs
from-all P [] all = tt
from-all P (x ∷ xs) all = (All-head P x xs all, from-all P xs (All-tail P x xs all))

pub letter-solid : (c : ℕ) → is_letter c ≡ true → is_gap c ≡ false
letter-solid c is = grind arith

pub letter-digit-solid : (c : ℕ) → is_letter_or_digit c ≡ true → is_gap c ≡ false
letter-digit-solid c is = grind arith

digit-solid : (value : ℕ) → is_gap (digit_of value) ≡ false
unfolding digit_of
digit-solid value = grind arith

pub sid-solid : (n : ℕ) → IsSolid (sid_text n)
sid-solid n = (digit-solid (n / 32768), (digit-solid (n / 1024 % 32), (digit-solid (n / 32 % 32), (digit-solid (n % 32), tt))))

-- ---- spellings

-- a word that spells a text, the empty one too
abbrev pub IsSpelt : List ℕ → Type 0
IsSpelt word = (text : List ℕ) × (word ≡ escaped_text text)

pub spelt-solid : (word : List ℕ) → IsSpelt word → IsSolid word
spelt-solid word spelt = from-all (λ b. is_gap b ≡ false) word (spelt_is_escaped word spelt.0 (read_back word spelt.0 spelt.1)).1

-- ASCII that stands for itself
abbrev pub is_plain_byte : ℕ → Bool
is_plain_byte b = nat_lt b 128 && not (is_special b)

abbrev pub IsPlain : List ℕ → Type 0
IsPlain word = AllByRecursion (λ b. is_plain_byte b ≡ true) word

pub letter-plain : (c : ℕ) → is_letter c ≡ true → is_plain_byte c ≡ true
letter-plain c is = grind arith

pub letter-digit-plain : (c : ℕ) → is_letter_or_digit c ≡ true → is_plain_byte c ≡ true
letter-digit-plain c is = grind arith

pub plain-special : (b : ℕ) → is_plain_byte b ≡ true → is_special b ≡ false
plain-special b is = grind arith

pub plain-small : (b : ℕ) → is_plain_byte b ≡ true → b < 128
plain-small b is = grind arith

plain-ascii : (word : List ℕ) → IsPlain word → IsAscii word
plain-ascii [] plain i = omega arith
plain-ascii (b ∷ word) plain zero = plain-small b plain.0
plain-ascii (b ∷ word) plain (suc i) = plain-ascii word plain.1 i

pub plain-utf8 : (word : List ℕ) → IsPlain word → IsUtf8 word
plain-utf8 word plain = IsUtf8-from_ascii word (plain-ascii word plain)

pub blank-utf8 : IsUtf8 (32 ∷ [])
blank-utf8 = IsUtf8-from_ascii (32 ∷ []) only
  where
    only : IsAscii (32 ∷ [])
    only zero = omega arith
    only (suc i) = omega arith

pub plain-before : (run word : List ℕ) → IsPlain run → IsSpelt word → IsSpelt (run ++ word)
plain-before [] word plain spelt = spelt
plain-before (b ∷ run) word plain spelt =
    let rest = plain-before run word plain.1 spelt in
    (b ∷ rest.0, ap (λ (bs : List ℕ). b ∷ bs) rest.1 ∙ sym (escaped-cons b rest.0 ∙ ap (λ (bs : List ℕ). bs ++ escaped_text rest.0) (escaped_byte-plain b (plain-special b plain.0))))

pub plain-spelt : (word : List ℕ) → IsPlain word → IsSpelt word
plain-spelt word plain = subst IsSpelt (append-nil word) (plain-before word [] plain ([], sym escaped-nil))

-- ---- numbers

glyph-plain : (n : ℕ) → is_plain_byte (if nat_lt (n % 10) 10 then 48 + n % 10 else 87 + n % 10) ≡ true
glyph-plain n = grind arith

onto-cond : (b : Bool) (xs ys : List ℕ) → IsPlain xs → IsPlain ys → IsPlain (if b then xs else ys)
onto-cond true xs ys first second = first
onto-cond false xs ys first second = second

pub onto-plain : (k n : ℕ) (acc : List ℕ) → IsPlain acc → IsPlain (digits_onto k 10 false n acc)
onto-plain zero n acc plain = plain
onto-plain (suc k) n acc plain =
    onto-cond (n / 10 == 0) _ _ (glyph-plain n, plain) (onto-plain k (n / 10) _ (glyph-plain n, plain))

-- ---- words, one after another

pub cut : (word : List ℕ) (gap : ℕ) (rest : List ℕ) → IsSolid word → is_gap gap ≡ true → pieces (word ++ gap ∷ rest) ≡ word ∷ pieces rest
cut word gap rest solid is = slice_split_at is_gap word gap rest (to-all (λ b. is_gap b ≡ false) word solid) is

-- ---- fields

-- a value that spells a text
pub record IsValue (value : List ℕ) : Type 0 where
  pub spelt : IsSpelt value
  pub utf8 : IsUtf8 value

-- a field that can be printed: a name of two characters, and such a value
pub record IsGood (f : Field) : Type 0 where
  pub first : ℕ
  pub second : ℕ
  pub name : f.name ≡ first ∷ second ∷ []
  pub letter : is_letter first ≡ true
  pub letter_or_digit : is_letter_or_digit second ≡ true
  pub value : IsValue f.value

abbrev pub word_of : Field → List ℕ
word_of f = f.name ++ f.value

pub word-solid : (f : Field) → IsGood f → IsSolid (word_of f)
word-solid f good = subst (λ (name : List ℕ). IsSolid (name ++ f.value)) (sym good.name)
    (letter-solid good.first good.letter, (letter-digit-solid good.second good.letter_or_digit, spelt-solid f.value good.value.spelt))

named-word : (a b : ℕ) (value : List ℕ) → is_letter a ≡ true → is_letter_or_digit b ≡ true → is_named (a ∷ b ∷ value) ≡ true
unfolding is_named
named-word a b value is-a is-b = grind arith

word-named : (f : Field) → IsGood f → is_named (word_of f) ≡ true
word-named f good = ap (λ (name : List ℕ). is_named (name ++ f.value)) good.name ∙ named-word good.first good.second f.value good.letter good.letter_or_digit

word-field : (f : Field) → IsGood f → field_in (word_of f) ≡ f
word-field f good = ap (λ (name : List ℕ). field_in (name ++ f.value)) good.name ∙ ap (λ (name : List ℕ). field name f.value) (sym good.name)

-- what is told of fields that are printed
abbrev pub IsTold : Field → Type 0
IsTold f = IsGood f × (is_called client_type_name f ≡ false)

told-more : (word : List ℕ) (words : List (List ℕ)) (f : Field) → is_named word ≡ true → field_in word ≡ f → is_called client_type_name f ≡ false
    → fields_told (word ∷ words) ≡ f ∷ fields_told words
told-more word words f named is other =
    ap (λ b. filter (λ g. not (is_called client_type_name g)) (map field_in (cond b (word ∷ filter is_named words) (filter is_named words)))) named
    ∙ ap (λ g. cond (not (is_called client_type_name g)) (g ∷ fields_told words) (fields_told words)) is
    ∙ ap (λ b. cond (not b) (f ∷ fields_told words) (fields_told words)) other

-- the words behind the second: those of the fields, and what comes behind them
pub fields-cut : (word : List ℕ) (fields : List Field) (gap : ℕ) (rest : List ℕ) → IsSolid word → is_gap gap ≡ true → AllByRecursion IsTold fields
    → (more : List (List ℕ)) × (pieces (word ++ (printed_fields fields ++ gap ∷ rest)) ≡ word ∷ more) × (fields_told more ≡ fields ++ fields_told (pieces rest))
unfolding printed_fields
fields-cut word [] gap rest solid is told = (pieces rest, cut word gap rest solid is, refl)
fields-cut word (f ∷ fields) gap rest solid is told =
    let behind = fields-cut (word_of f) fields gap rest (word-solid f told.0.0) is told.1 in (
      word_of f ∷ behind.0,
      ap (λ (bs : List ℕ). pieces (word ++ bs)) (append_assoc (32 ∷ word_of f) (printed_fields fields) (gap ∷ rest))
          ∙ cut word 32 (word_of f ++ (printed_fields fields ++ gap ∷ rest)) solid refl ∙ ap (λ (ws : List (List ℕ)). word ∷ ws) behind.1,
      told-more (word_of f) behind.0 f (word-named f told.0.0) (word-field f told.0.0) told.0.1 ∙ ap (λ fs. f ∷ fs) behind.2,
    )

-- ---- each line that tells of users

-- what the hub says of the client is told of no field
record TypeTold (text : List ℕ) : Type 0 where
  gap : ℕ
  rest : List ℕ
  is : is_gap gap ≡ true
  text_is : text ++ 10 ∷ [] ≡ gap ∷ rest
  none : fields_told (pieces rest) ≡ []

type-of : (operator : Bool) → TypeTold (if operator then codes " CT4" else codes " CT2")
unfolding is_named
type-of true = record { gap = 32; rest = _; is = refl; text_is = refl; none = refl }
type-of false = record { gap = 32; rest = _; is = refl; text_is = refl; none = refl }

type-told : (account : Option ConfiguredAccount) → TypeTold (client_type account)
unfolding is_named
type-told (Some account) = type-of account.operator
type-told None = record { gap = 10; rest = []; is = refl; text_is = refl; none = refl }

pub user-heard : (sid : ℕ) (fields : List Field) (account : Option ConfiguredAccount) (users : List Listing) → AllByRecursion IsTold fields
    → heard users (user_line sid fields account) ≡ with_user (sid_text sid) fields users
unfolding user_line
user-heard sid fields account users told =
    let type = type-told account in
    let rest = fields-cut (sid_text sid) fields type.gap type.rest (sid-solid sid) type.is told in
    ap (heard users) (append_assoc (codes "BINF ") (sid_text sid ++ (printed_fields fields ++ client_type account)) (10 ∷ []) ∙ ap (λ (bs : List ℕ). codes "BINF " ++ bs)
    (append_assoc (sid_text sid) (printed_fields fields ++ client_type account) (10 ∷ []) ∙ ap (λ (bs : List ℕ). sid_text sid ++ bs)
    (append_assoc (printed_fields fields) (client_type account) (10 ∷ []) ∙ ap (λ (bs : List ℕ). printed_fields fields ++ bs) type.text_is)))
    ∙ ap (λ ws. heard_words ws users)
    (cut (codes "BINF") 32 (sid_text sid ++ (printed_fields fields ++ type.gap ∷ type.rest)) (refl, (refl, (refl, (refl, tt)))) refl ∙ ap (λ (ws : List (List ℕ)). codes "BINF" ∷ ws) rest.1)
    ∙ ap (λ fs. with_user (sid_text sid) fs users) (rest.2 ∙ ap (λ fs. fields ++ fs) type.none ∙ append-nil fields)

pub update-heard : (sid : ℕ) (fields : List Field) (users : List Listing) → AllByRecursion IsTold fields
    → heard users (update_line sid fields) ≡ with_user (sid_text sid) fields users
unfolding update_line is_named
update-heard sid fields users told =
    let rest = fields-cut (sid_text sid) fields 10 [] (sid-solid sid) refl told in
    ap (heard users) (append_assoc (codes "BINF ") (sid_text sid ++ printed_fields fields) (10 ∷ []) ∙ ap (λ (bs : List ℕ). codes "BINF " ++ bs) (append_assoc (sid_text sid) (printed_fields fields) (10 ∷ [])))
    ∙ ap (λ ws. heard_words ws users)
    (cut (codes "BINF") 32 (sid_text sid ++ (printed_fields fields ++ 10 ∷ [])) (refl, (refl, (refl, (refl, tt)))) refl ∙ ap (λ (ws : List (List ℕ)). codes "BINF" ∷ ws) rest.1)
    ∙ ap (λ fs. with_user (sid_text sid) fs users) (rest.2 ∙ append-nil fields)

gone-heard : (sid gap : ℕ) (rest : List ℕ) (users : List Listing) → is_gap gap ≡ true
    → heard users (codes "IQUI " ++ (sid_text sid ++ gap ∷ rest)) ≡ without_user (sid_text sid) users
gone-heard sid gap rest users is =
    ap (λ ws. heard_words ws users)
    (cut (codes "IQUI") 32 (sid_text sid ++ gap ∷ rest) (refl, (refl, (refl, (refl, tt)))) refl ∙ ap (λ (ws : List (List ℕ)). codes "IQUI" ∷ ws) (cut (sid_text sid) gap rest (sid-solid sid) is))

pub quit-heard : (sid : ℕ) (users : List Listing) → heard users (quit_line sid) ≡ without_user (sid_text sid) users
quit-heard sid users = gone-heard sid 10 [] users refl

pub removal-heard : (target operator : ℕ) (seconds : Option ℕ) (reason : List ℕ) (users : List Listing)
    → heard users (removal_line target operator seconds reason) ≡ without_user (sid_text target) users
unfolding removal_line
removal-heard target operator seconds reason users =
    gone-heard target 32 (73 ∷ 68 ∷ (sid_text operator ++ (ban_field seconds ++ text_field (codes " MS") reason)) ++ 10 ∷ []) users refl

-- ---- each other line

-- a line whose first four bytes are those of neither
pub record IsOther (line : List ℕ) : Type 0 where
  pub a : ℕ
  pub b : ℕ
  pub c : ℕ
  pub d : ℕ
  pub rest : List ℕ
  pub is : line ≡ a ∷ b ∷ c ∷ d ∷ rest
  pub solid : IsSolid (a ∷ b ∷ c ∷ d ∷ [])
  pub no_entry : (a ∷ b ∷ c ∷ d ∷ []) ≡ codes "BINF" → ⊥
  pub no_leave : (a ∷ b ∷ c ∷ d ∷ []) ≡ codes "IQUI" → ⊥

onto-some : (x : ℕ) (ws : List (List ℕ)) → (word : List ℕ) × (more : List (List ℕ)) × (onto_first x ws ≡ (x ∷ word) ∷ more)
onto-some x [] = ([], [], refl)
onto-some x (word ∷ more) = (word, more, refl)

first-four : (a b c d : ℕ) (rest : List ℕ) → IsSolid (a ∷ b ∷ c ∷ d ∷ [])
    → (word : List ℕ) × (more : List (List ℕ)) × (pieces (a ∷ b ∷ c ∷ d ∷ rest) ≡ (a ∷ b ∷ c ∷ d ∷ word) ∷ more)
first-four a b c d rest solid =
    let last = onto-some d (pieces rest) in (
      last.0,
      last.1,
      slice_split-cons_no is_gap a (b ∷ c ∷ d ∷ rest) solid.0
          ∙ ap (onto_first a) (slice_split-cons_no is_gap b (c ∷ d ∷ rest) solid.1.0
          ∙ ap (onto_first b) (slice_split-cons_no is_gap c (d ∷ rest) solid.1.1.0
          ∙ ap (onto_first c) (slice_split-cons_no is_gap d rest solid.1.1.1.0 ∙ last.2))),
    )

four-of : (a b c d w x y z : ℕ) (word : List ℕ) → (a ∷ b ∷ c ∷ d ∷ word) ≡ (w ∷ x ∷ y ∷ z ∷ []) → (a ∷ b ∷ c ∷ d ∷ []) ≡ (w ∷ x ∷ y ∷ z ∷ [])
four-of a b c d w x y z word is = grind arith

not-word : (word other : List ℕ) (b : Bool) → bytes_eq word other ≡ b → (word ≡ other → ⊥) → b ≡ false
not-word word other b is apart = grind (arith, bytes_eq-Decides)

else-words : (first : List ℕ) (more : List (List ℕ)) (users : List Listing) → bytes_eq first (codes "BINF") ≡ false → bytes_eq first (codes "IQUI") ≡ false
    → heard_words (first ∷ more) users ≡ users
else-words first [] users no-entry no-leave = refl
else-words first (word ∷ more) users no-entry no-leave =
    ap₂ (λ a b. if a then with_user word (fields_told more) users else if b then without_user word users else users) no-entry no-leave

pub other-heard : (line : List ℕ) (users : List Listing) → IsOther line → heard users line ≡ users
other-heard line users o =
    let split = first-four o.a o.b o.c o.d o.rest o.solid in
    let first : List ℕ = o.a ∷ o.b ∷ o.c ∷ o.d ∷ split.0 in
    ap (heard users) o.is ∙ ap (λ ws. heard_words ws users) split.2
    ∙ else-words first split.1 users
    (not-word first (codes "BINF") _ refl (λ same. o.no_entry (four-of o.a o.b o.c o.d 66 73 78 70 split.0 same)))
    (not-word first (codes "IQUI") _ refl (λ same. o.no_leave (four-of o.a o.b o.c o.d 73 81 85 73 split.0 same)))
