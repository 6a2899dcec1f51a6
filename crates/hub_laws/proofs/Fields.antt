-- After every history the fields of a user can be printed as words: names of two characters, and values that spell texts.
use Rattle.std.proofs.Common.{◌≡◌, ◌∙◌, sym, ap, refl, subst, ℕ, Bool, true, false, ◌==◌, List, [], ◌∷◌, ◌++◌, length, map, cond, ◌&&◌, Option, Some, Ok, Err, unwrap_or, arith}
use Rattle.std.specs.Prelude.{is_some, if◌then◌else◌}
use Rattle.std.specs.Fmt.{digits}
use Rattle.std.specs.List.{join_with_byte}
use Rattle.std.specs.Str.{IsUtf8}
use Rattle.std.proofs.Math.Seq.{take-append_seam}
use Rattle.std.proofs.lemmas.Str.{IsCharBoundary-at_seam, IsUtf8-append, IsUtf8-take}
use Rattle.adc_line.specs.Escapes.{backslash, escape_means, is_escaped}
use Rattle.adc_line.specs.Grammar.{IsParameter, Reads}
use Rattle.adc_line.specs.Header.{is_letter, is_letter_or_digit, letter}
use Rattle.adc_line.proofs.EscapeLaws.{escaped-unescaped}
use Rattle.adc_line.proofs.EscapeLemmas.{plain_is_no_backslash, utf8_behind}
use Rattle.adc_line.proofs.GrammarLemmas.{escaped_is_spelt, parameter_tests}
use Rattle.inf_fields.specs.Cleaning.{dotted_decimal}
use Rattle.inf_fields.specs.FieldNames.{client_type_name}
use Rattle.inf_fields.specs.Updates.{before, field_in, is_named, unless_too_many, update}
use Rattle.inf_fields.specs.declared.fault.InfFault.TheVariants.{BadName}
use Rattle.hub_laws.proofs.Words.{ConnState, AllByRecursion, Becomes, Call, Configured, Effect, Entry, Facts, Field, Outcome, SenderView, PreparedLine, Reading, Reads-of, Request, HubView, and_parts, besides}
use Rattle.hub_laws.proofs.Words.{clean, becomes, effect_of_line, eqb-true, facts, false≢true, field, fields_after, info, is_called, is_held_back, latest}
use Rattle.hub_laws.proofs.Words.{lets_in, list_all, merged_with, or-parts, outcome, own_of, prepared_line, revises, sight_of, user_after, value_of, waits, with_address}
use Rattle.hub_laws.proofs.Words.lines
use Rattle.hub_laws.proofs.Words.updates
use Rattle.hub_laws.proofs.FreeNames.{listed-fields}
use Rattle.hub_laws.proofs.FieldNames.{read-update}
use Rattle.hub_laws.proofs.SenderOrder.{is-accepted}
use Rattle.hub_laws.proofs.Pieces.{IsGood, IsPlain, IsSpelt, IsTold, IsValue, blank-utf8, from-all, is_gap, letter-digit-plain, letter-plain, is_plain_byte, onto-plain, plain-small, plain-special, plain-spelt, plain-utf8, to-all}
use Rattle.hub_laws.proofs.Public.{info_is_public}
use Rattle.hub_laws.specs.Secrets.{IsPublic}
use Rattle.hub_rules.specs.History.{about}
use Rattle.hub_laws.proofs.Secrets.{all-append, all-as, all-filter, clean-kept}

abbrev pub AreGood : List Field → Type 0
AreGood fields = AllByRecursion IsGood fields

-- ---- addresses

joined-plain : (words : List (List ℕ)) → AllByRecursion IsPlain words → IsPlain (join_with_byte 46 words)
joined-plain [] all = tt
joined-plain (word ∷ []) all = all.0
joined-plain (word ∷ next ∷ words) all =
    all-append (λ b. is_plain_byte b ≡ true) word (46 ∷ join_with_byte 46 (next ∷ words)) all.0 (refl, joined-plain (next ∷ words) all.1)

decimals-plain : (peer : List ℕ) → AllByRecursion IsPlain (map (λ n. digits 10 false n) peer)
unfolding digits
decimals-plain [] = tt
decimals-plain (n ∷ peer) = (onto-plain 64 n [] tt, decimals-plain peer)

pub address-plain : (peer : List ℕ) → IsPlain (dotted_decimal peer)
unfolding dotted_decimal
address-plain peer = joined-plain _ (decimals-plain peer)

-- ---- what words say

escaped-tail : (b : ℕ) (word : List ℕ) → (b == backslash) ≡ false → is_escaped (b ∷ word) ≡ true → is_escaped word ≡ true
unfolding is_escaped
escaped-tail b [] plain is = refl
escaped-tail b (c ∷ word) plain is = sym (ap (λ x. cond x (is_some (escape_means c) && is_escaped word) (is_escaped (c ∷ word))) plain) ∙ is

-- what stands behind a name spells a text, too
value-spelt : (a b : ℕ) (value : List ℕ) → is_letter a ≡ true → is_letter_or_digit b ≡ true → IsParameter (a ∷ b ∷ value) → IsSpelt value
value-spelt a b value letter other is =
    let tests = parameter_tests (a ∷ b ∷ value) is in
    let solid = from-all (λ x. is_gap x ≡ false) (a ∷ b ∷ value) tests.2 in
    let escaped =
    escaped-tail b value (plain_is_no_backslash b (plain-special b (letter-digit-plain b other))) (escaped-tail a (b ∷ value) (plain_is_no_backslash a (plain-special a (letter-plain a letter))) tests.1) in
    let text = escaped_is_spelt value escaped (to-all (λ x. is_gap x ≡ false) value solid.1.1) in
    (text.0, sym (escaped-unescaped value text.0 text.1))

-- a word that has a name makes a field that can be printed
good-word : (word : List ℕ) → is_named word ≡ true → IsParameter word → IsUtf8 word → IsGood (field_in word)
unfolding is_named
good-word [] named is utf8 = absurd (false≢true named)
good-word (a ∷ []) named is utf8 = absurd (false≢true named)
good-word (a ∷ b ∷ value) named is utf8 =
    let tests = and_parts _ (is_letter_or_digit b) named in
    let named-by = (and_parts _ (is_letter a) tests.0).1 in
    let behind = utf8_behind (a ∷ b ∷ value) (a ∷ []) value b utf8 refl (plain-small b (letter-digit-plain b tests.1)) in
    record { first = a; second = b; name = refl; letter = named-by; letter_or_digit = tests.1; value = record { spelt = value-spelt a b value named-by tests.1 is; utf8 = behind } }

-- the words of a text are texts
words-utf8 : (word : List ℕ) (words : List (List ℕ)) → IsUtf8 (join_with_byte 32 (word ∷ words)) → AllByRecursion IsUtf8 (word ∷ words)
words-utf8 word [] utf8 = (utf8, tt)
words-utf8 word (next ∷ words) utf8 =
    let more : List ℕ = join_with_byte 32 (next ∷ words) in
    let rest = utf8_behind (word ++ 32 ∷ more) word more 32 utf8 refl (omega arith) in
    let seam = IsCharBoundary-at_seam (word ++ 32 ∷ more) word (32 ∷ more) refl (IsUtf8-append (32 ∷ []) more blank-utf8 rest) in
    (subst IsUtf8 (take-append_seam word (32 ∷ more)) (IsUtf8-take (word ++ 32 ∷ more) (length word) utf8 seam), words-utf8 next words rest)

all-later : {X : Type 0} (P : X → Type 0) (xs ys : List X) → AllByRecursion P (xs ++ ys) → AllByRecursion P ys
all-later P [] ys all = all
all-later P (x ∷ xs) ys all = all-later P xs ys all.1

params-utf8 : (bytes : List ℕ) (line : Reading) → Reads bytes line → AllByRecursion IsUtf8 line.params
params-utf8 bytes line is =
    all-later IsUtf8 ((letter line.kind ∷ line.command) ∷ is.addresses) line.params
    (words-utf8 (letter line.kind ∷ line.command) (is.addresses ++ line.params) (subst IsUtf8 is.spelt is.utf8))

plain-value : (word : List ℕ) → IsPlain word → IsValue word
plain-value word plain = record { spelt = plain-spelt word plain; utf8 = plain-utf8 word plain }

-- of another value
renamed : (f : Field) (value : List ℕ) → IsGood f → IsValue value → IsGood (field f.name value)
renamed f value good is =
    record { first = good.first; second = good.second; name = good.name; letter = good.letter; letter_or_digit = good.letter_or_digit; value = is }

cond-value : (b : Bool) (value : List ℕ) (o : Option (List ℕ)) (otherwise : List ℕ) → IsValue value → IsValue (unwrap_or o otherwise) → IsValue (unwrap_or (if b then Some value else o) otherwise)
cond-value true value o otherwise first second = first
cond-value false value o otherwise first second = second

chosen-value : (name : List ℕ) (fields : List Field) (otherwise : List ℕ) → AreGood fields → IsValue otherwise → IsValue (unwrap_or (value_of name fields) otherwise)
chosen-value name [] otherwise good is = is
chosen-value name (f ∷ fields) otherwise good is = cond-value (is_called name f) f.value (value_of name fields) otherwise good.0.value (chosen-value name fields otherwise good.1 is)

good-update : (words : List (List ℕ)) → list_all is_named words ≡ true → AllByRecursion IsParameter words → AllByRecursion IsUtf8 words → AreGood (update words)
unfolding update
good-update [] named spelt utf8 = tt
good-update (word ∷ words) named spelt utf8 =
    let tests = and_parts (is_named word) (list_all is_named words) named in
    let rest = good-update words tests.1 spelt.1 utf8.1 in
    let one = good-word word tests.0 spelt.0 utf8.0 in
    (renamed (field_in word) _ one (chosen-value (field_in word).name (update words) (field_in word).value rest one.value), all-filter IsGood _ (update words) rest)

all-named : (named : Bool) (fields u : List Field) → (if named then unless_too_many fields else Err BadName) ≡ Ok u → named ≡ true
all-named named fields u is = grind arith

read-named : (words : List (List ℕ)) (u : List Field) → updates.reading words ≡ Ok u → list_all is_named words ≡ true
unfolding updates.reading
read-named words u is = all-named (list_all is_named words) (update words) u is

pub good-read : (bytes : List ℕ) (line : Reading) (u : List Field) → lines.reading bytes ≡ Ok line → updates.reading line.params ≡ Ok u → AreGood u
good-read bytes line u reads words =
    let is : Reads bytes line = Reads-of bytes line reads in
    subst AreGood (sym (read-update line.params u words))
    (good-update line.params (read-named line.params u words) (from-all IsParameter line.params is.params) (params-utf8 bytes line is))

-- ---- what is passed on, and merged

good-if : (b : Bool) (f g : Field) → IsGood f → IsGood g → IsGood (if b then f else g)
good-if true f g first second = first
good-if false f g first second = second

good-mapped : (peer : List ℕ) (u : List Field) → AreGood u → AreGood (map (with_address peer) u)
good-mapped peer [] good = tt
good-mapped peer (f ∷ u) good = (good-if _ _ f (renamed f (dotted_decimal peer) good.0 (plain-value (dotted_decimal peer) (address-plain peer))) good.0, good-mapped peer u good.1)

pub good-clean : (peer : List ℕ) (u : List Field) → AreGood u → AreGood (clean u peer)
unfolding clean
good-clean peer u good = good-mapped peer _ (all-filter IsGood _ u good)

good-settled : (u fields : List Field) → AreGood u → AreGood fields → AreGood (map (λ f. field f.name (latest (u ∷ []) f.name f.value)) fields)
good-settled u [] good all = tt
good-settled u (f ∷ fields) good all = (renamed f _ all.0 (chosen-value f.name u f.value good all.0.value), good-settled u fields good all.1)

good-merged : (fields u : List Field) → AreGood fields → AreGood u → AreGood (merged_with fields u)
unfolding merged_with
good-merged fields u good more =
    good-settled u _ more (all-filter IsGood _ (fields ++ besides fields u) (all-append IsGood fields (besides fields u) good (all-filter IsGood _ u more)))

-- ---- every line, and every history

good-login : (own : SenderView) (bytes : List ℕ) (reading : Reading) (u : List Field) → lines.reading bytes ≡ Ok reading → updates.reading reading.params ≡ Ok u → AreGood own.fields
    → AreGood (user_after own u).fields
good-login own bytes reading u read words good =
    subst AreGood (sym (listed-fields own.sender.sid (merged_with own.fields (clean u own.sender.peer)))) (good-merged own.fields _ good (good-clean own.sender.peer u (good-read bytes reading u read words)))

module _ {hub : HubView} {own : SenderView} {line : PreparedLine} {now : ℕ} where
  keeps-good : {said : Option Reading} {request : Request} {effect : Effect} → Outcome hub own line now said request effect → ((reading : Reading) → said ≡ Some reading → lines.reading line.bytes ≡ Ok reading)
      → AreGood own.fields → AreGood (fields_after effect.change own.fields)
  keeps-good (waits reading u logs account) reads good = good-login own line.bytes reading u (reads reading refl) logs.words good
  keeps-good (lets_in reading u logs account) reads good = good-login own line.bytes reading u (reads reading refl) logs.words good
  keeps-good (revises reading u at words none) reads good = good-merged own.fields _ good (good-clean own.sender.peer u (good-read line.bytes reading u (reads reading refl) words))
  keeps-good _ reads good = good

good-chosen : (same : Bool) (after before : List Field) → (same ≡ true → AreGood after) → AreGood before → AreGood (cond same after before)
good-chosen true after before own good = own refl
good-chosen false after before own good = good

good-line : (setup : Configured) (hash : List ℕ → List ℕ) (f : Facts) (c : ℕ) (bytes : List ℕ) (now : ℕ) → AreGood (f.about c).fields
    → AreGood (fields_after (effect_of_line setup hash f c bytes now).change (f.about c).fields)
good-line setup hash f c bytes now good =
    let line : PreparedLine = prepared_line setup hash (f.about c).sender.challenge bytes in
    keeps-good (outcome (sight_of setup f) (own_of (f.about c)) line now)
    (λ reading said. (is-accepted (sight_of setup f) (own_of (f.about c)) line now reading said).reads) good

module _ {setup : Configured} {hash : List ℕ → List ℕ} {f : Facts} {caller d : ℕ} where
  good-after : {call : Call} {a : ConnState} → Becomes setup hash f caller d call a → AreGood (f.about d).fields → AreGood a.fields
  good-after (Becomes.joins peer challenge now place is) good = tt
  good-after (Becomes.says c bytes now) good =
      good-chosen (d == c) _ (f.about d).fields
      (λ is. subst (λ x. AreGood (f.about x).fields → AreGood (fields_after (effect_of_line setup hash f c bytes now).change (f.about x).fields)) (sym (eqb-true d c is))
      (good-line setup hash f c bytes now) good) good
  good-after (Becomes.quits c) good = good-chosen (d == c) (f.about d).fields (f.about d).fields (λ is. good) good
  good-after _ good = good

pub good_of : (setup : Configured) (hash : List ℕ → List ℕ) (h : List Entry) (c : ℕ) → AreGood (info setup hash h c)
unfolding facts
good_of setup hash [] c = tt
good_of setup hash (e ∷ h) c = good-after (becomes setup hash (facts setup hash h) e.caller c e.call) (good_of setup hash h c)

-- ---- what is told of them

not-type : (f : Field) → is_held_back f ≡ false → is_called client_type_name f ≡ false
not-type f held = (or-parts _ (is_called client_type_name f) (or-parts _ _ (or-parts _ _ held).0).0).1

pub told-all : (fields : List Field) → AreGood fields → AllByRecursion (λ (f : Field). is_held_back f ≡ false) fields → AllByRecursion IsTold fields
told-all [] good held = tt
told-all (f ∷ fields) good held = ((good.0, not-type f held.0), told-all fields good.1 held.1)

-- what is known of a user
pub told_of_user : (setup : Configured) (hash : List ℕ → List ℕ) (h : List Entry) (c : ℕ) → AllByRecursion IsTold (info setup hash h c)
told_of_user setup hash h c =
    told-all (info setup hash h c) (good_of setup hash h c)
    (all-as (IsPublic (about setup hash h c).sender.peer) (λ (f : Field). is_held_back f ≡ false) (info setup hash h c) (λ f is. is.0) (info_is_public setup hash h c))

-- what is passed on of an update
pub told-clean : (peer : List ℕ) (bytes : List ℕ) (line : Reading) (u : List Field) → lines.reading bytes ≡ Ok line → updates.reading line.params ≡ Ok u → AllByRecursion IsTold (clean u peer)
told-clean peer bytes line u reads words = told-all (clean u peer) (good-clean peer u (good-read bytes line u reads words)) (clean-kept u peer)
