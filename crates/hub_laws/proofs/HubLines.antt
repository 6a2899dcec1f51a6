-- Each line of the type I is a command and parameters, with one blank before each.
use Rattle.std.proofs.Common.{◌≡◌, sym, refl, subst, ℕ, zero, suc, ◌<◌, Bool, true, false, ◌==◌, List, [], ◌∷◌, ◌++◌, append_assoc, append-nil, length, map, replicate, take, drop, arith}
use Rattle.std.specs.Prelude.{Option, Some, None, codes, if◌then◌else◌}
use Rattle.std.specs.Fmt.{decimal}
use Rattle.std.specs.Str.{IsUtf8}
use Rattle.std.proofs.lemmas.Str.{IsUtf8-append}
use Rattle.adc_base32.specs.Bits.{bits, byte_bits, text_len}
use Rattle.adc_base32.specs.Digits.{digit_of}
use Rattle.adc_base32.specs.Sids.{sid_count, sid_text}
use Rattle.adc_base32.specs.Spelled.{number_from, numbers_from, spelling}
use Rattle.adc_line.specs.Escapes.{escape_means, escaped_text, is_escaped}
use Rattle.adc_line.specs.Grammar.{IsParameter}
use Rattle.adc_line.specs.Words.{words}
use Rattle.adc_line.proofs.GrammarLemmas.{both}
use Rattle.inf_fields.specs.Cleaning.{dotted_decimal}
use Rattle.login_state.specs.Denials.{denial_line, denial_text}
use Rattle.login_state.specs.NamedFields.{name_of}
use Rattle.login_state.specs.declared.deny.Severity.TheVariants.{Fatal, Recoverable}
use Rattle.login_state.specs.declared.named_field.NamedField.{NamedField}
use Rattle.hub_rules.specs.Configured.{ConfiguredEntry}
use Rattle.hub_rules.specs.Effects.{ping_of}
use Rattle.hub_rules.specs.Texts.{ban_field, challenge_line, client_type, done_line, hub_line, identifier_line, menu_item, menu_line, ping_fields, removal_line, support_line, text_field, topic_line}
use Rattle.user_table.specs.declared.totals.Totals.{Totals}
use Rattle.hub_laws.proofs.Words.{ConfiguredAccount, AllByRecursion, Configured, Deny, HubView, quit_line, with_line_feed}
use Rattle.hub_laws.proofs.Words.denials
use Rattle.hub_laws.proofs.Pieces.{IsPlain, IsSpelt, blank-utf8, is_plain_byte, plain-utf8, plain-spelt}
use Rattle.hub_laws.proofs.Secrets.{all-append}
use Rattle.hub_laws.proofs.Statuses.{is_plain, is_said}
use Rattle.hub_laws.proofs.Written.{HubLine, Told, address-spelt, are_words, decimal-spelt, digit-plain, named, none-told, parameter-of, sid-parameter, sid-plain}
use Rattle.hub_laws.proofs.Written.{text-spelt, told, told-both, told-last, word-parameter, written}

-- ---- challenges as they are spelt

abbrev IsBit : ℕ → Type 0
IsBit b = b < 2

bits-small : (k n : ℕ) → AllByRecursion IsBit (bits k n)
unfolding bits
bits-small zero n = tt
bits-small (suc k) n = (omega arith, bits-small k n)

bytes-small : (bytes : List ℕ) → AllByRecursion IsBit (byte_bits bytes)
bytes-small [] = tt
bytes-small (b ∷ bytes) = all-append IsBit (bits 8 b) (byte_bits bytes) (bits-small 8 b) (bytes-small bytes)

zeros-small : (n : ℕ) → AllByRecursion IsBit (replicate n 0)
zeros-small zero = tt
zeros-small (suc n) = (omega arith, zeros-small n)

five-small : (xs : List ℕ) → AllByRecursion IsBit xs → number_from 0 (take 5 xs) < 32
unfolding number_from
five-small [] all = omega arith
five-small (a ∷ []) all = omega (arith, all.0)
five-small (a ∷ b ∷ []) all = omega (arith, all.0, all.1.0)
five-small (a ∷ b ∷ c ∷ []) all = omega (arith, all.0, all.1.0, all.1.1.0)
five-small (a ∷ b ∷ c ∷ d ∷ []) all = omega (arith, all.0, all.1.0, all.1.1.0, all.1.1.1.0)
five-small (a ∷ b ∷ c ∷ d ∷ e ∷ xs) all = omega (arith, all.0, all.1.0, all.1.1.0, all.1.1.1.0, all.1.1.1.1.0)

later-small : (n : ℕ) (xs : List ℕ) → AllByRecursion IsBit xs → AllByRecursion IsBit (drop n xs)
later-small zero xs all = all
later-small (suc n) [] all = tt
later-small (suc n) (x ∷ xs) all = later-small n xs all.1

digits-plain : (n : ℕ) (xs : List ℕ) → AllByRecursion IsBit xs → IsPlain (map digit_of (numbers_from 5 n xs))
unfolding numbers_from
digits-plain zero xs all = tt
digits-plain (suc n) xs all = (digit-plain _ (five-small xs all), digits-plain n (drop 5 xs) (later-small 5 xs all))

digits-some : (n : ℕ) (xs : List ℕ) → 0 < n → map digit_of (numbers_from 5 n xs) ≡ [] → ⊥
unfolding numbers_from
digits-some zero xs some none = absurd (omega (arith, some))
digits-some (suc n) xs some none = cc

spelling-parameter : (b : ℕ) (bytes : List ℕ) → IsParameter (spelling (b ∷ bytes))
unfolding spelling
spelling-parameter b bytes =
    parameter-of (spelling (b ∷ bytes)) (digits-some (text_len (length (b ∷ bytes))) _ (omega arith))
    (plain-spelt (spelling (b ∷ bytes)) (digits-plain _ _ (all-append IsBit (byte_bits (b ∷ bytes)) _ (bytes-small (b ∷ bytes)) (zeros-small _))))

-- ---- the lines of the type I

if-told : (b : Bool) (text : List ℕ) → Told text → Told (if b then [] else text)
if-told true text is = none-told
if-told false text is = is

if-words : (b : Bool) (text : List ℕ) → Told text → Told (if b then text else [])
if-words true text is = is
if-words false text is = none-told

topic-told : (topic : List ℕ) → Told (text_field (codes " DE") topic)
topic-told topic = if-told (length topic == 0) _ (told-last (codes "DE" ++ escaped_text topic) (named 68 (69 ∷ []) (escaped_text topic) (refl, (refl, tt)) (text-spelt topic)))

reason-told : (reason : List ℕ) → Told (text_field (codes " MS") reason)
reason-told reason = if-told (length reason == 0) _ (told-last (codes "MS" ++ escaped_text reason) (named 77 (83 ∷ []) (escaped_text reason) (refl, (refl, tt)) (text-spelt reason)))

counted-told : (a b n : ℕ) → IsPlain (a ∷ b ∷ []) → Told (32 ∷ a ∷ b ∷ decimal n)
counted-told a b n plain = told-last (a ∷ b ∷ decimal n) (named a (b ∷ []) (decimal n) plain (decimal-spelt n))

counted-more : (text : List ℕ) (a b n : ℕ) → IsPlain (a ∷ b ∷ []) → Told text → Told (text ++ (32 ∷ a ∷ b ∷ []) ++ decimal n)
counted-more text a b n plain is = subst Told (sym (append_assoc text (32 ∷ a ∷ b ∷ []) (decimal n))) (told-both text _ is (counted-told a b n plain))

ban-told : (seconds : Option ℕ) → Told (ban_field seconds)
unfolding is_escaped
ban-told None = none-told
ban-told (Some n) = by-number (n == 0)
  where
    by-number : (b : Bool) → Told (if b then codes " TL-1" else codes " TL" ++ decimal n)
    by-number true = told-last (codes "TL-1") (word-parameter (codes "TL-1") refl)
    by-number false = counted-told 84 76 n (refl, (refl, tt))

pub item-told : (text : Option (List ℕ)) → Told (menu_item text)
unfolding is_escaped
item-told None = told-last (codes "SP1") (word-parameter (codes "SP1") refl)
item-told (Some text) = told-last (codes "TT" ++ escaped_text text) (named 84 (84 ∷ []) (escaped_text text) (refl, (refl, tt)) (text-spelt text))

pub type-told : (account : Option ConfiguredAccount) → Told (client_type account)
unfolding is_escaped
type-told None = none-told
type-told (Some account) = by-right account.operator
  where
    by-right : (operator : Bool) → Told (if operator then codes " CT4" else codes " CT2")
    by-right true = told-last (codes "CT4") (word-parameter (codes "CT4") refl)
    by-right false = told-last (codes "CT2") (word-parameter (codes "CT2") refl)

pub type-utf8 : (account : Option ConfiguredAccount) → IsUtf8 (client_type account)
type-utf8 None = plain-utf8 [] tt
type-utf8 (Some account) = by-right account.operator
  where
    by-right : (operator : Bool) → IsUtf8 (if operator then codes " CT4" else codes " CT2")
    by-right true = IsUtf8-append (32 ∷ []) (codes "CT4") blank-utf8 (plain-utf8 (codes "CT4") (refl, (refl, (refl, tt))))
    by-right false = IsUtf8-append (32 ∷ []) (codes "CT2") blank-utf8 (plain-utf8 (codes "CT2") (refl, (refl, (refl, tt))))

ping-told : (totals : Totals) (max_users seconds : ℕ) → Told (ping_fields totals max_users seconds)
ping-told totals max_users seconds =
    counted-more _ 85 80 seconds (refl, (refl, tt)) (counted-more _ 77 67 max_users (refl, (refl, tt)) (counted-more _ 83 70 totals.sf (refl, (refl, tt))
    (counted-more _ 83 83 totals.ss (refl, (refl, tt)) (counted-told 85 67 totals.users (refl, (refl, tt))))))

pub support-is : HubLine support_line
unfolding support_line is_escaped
support-is = written (codes "ISUP ADBASE ADTIGR ADPING ADUCMD") refl [] none-told

pub done-is : HubLine done_line
unfolding done_line is_escaped
done-is = written (codes "ISTA 000 Done") refl [] none-told

pub identifier-is : (n : ℕ) → n < sid_count → HubLine (identifier_line n)
unfolding identifier_line is_escaped
identifier-is n small = written (codes "ISID") refl (32 ∷ sid_text n) (told-last (sid_text n) (sid-parameter n small))

pub quit-is : (n : ℕ) → n < sid_count → HubLine (quit_line n)
unfolding is_escaped
quit-is n small = written (codes "IQUI") refl (32 ∷ sid_text n) (told-last (sid_text n) (sid-parameter n small))

pub topic-is : (topic : List ℕ) → HubLine (topic_line topic)
unfolding topic_line is_escaped
topic-is topic =
    written (codes "IINF") refl (codes " DE" ++ escaped_text topic)
    (told-last (codes "DE" ++ escaped_text topic) (named 68 (69 ∷ []) (escaped_text topic) (refl, (refl, tt)) (text-spelt topic)))

pub hub-is : (setup : Configured) (hub : HubView) (now : ℕ) (features : List (List ℕ)) (topic : List ℕ) → HubLine (hub_line setup topic (ping_of hub now features))
unfolding hub_line is_escaped escape_means
hub-is setup hub now features topic =
    written (codes "IINF CT32") refl (codes " NI" ++ escaped_text setup.name ++ codes " VEadc-hub\\s1.0" ++ text_field (codes " DE") topic ++ ping_of hub now features)
    (told-both _ (ping_of hub now features) (told-both _ (text_field (codes " DE") topic) (told (codes "NI" ++ escaped_text setup.name) (codes " VEadc-hub\\s1.0")
    (named 78 (73 ∷ []) (escaped_text setup.name) (refl, (refl, tt)) (text-spelt setup.name))
    (told-last (codes "VEadc-hub\\s1.0") (word-parameter (codes "VEadc-hub\\s1.0") refl))) (topic-told topic)) (if-words _ _ (ping-told _ _ _)))

pub challenge-is : (b : ℕ) (challenge : List ℕ) → HubLine (challenge_line (b ∷ challenge))
unfolding challenge_line is_escaped
challenge-is b challenge = written (codes "IGPA") refl (32 ∷ spelling (b ∷ challenge)) (told-last (spelling (b ∷ challenge)) (spelling-parameter b challenge))

-- what stands behind the name of an entry of the menu
pub entry-told : (entry : ConfiguredEntry) → Told (codes " CT" ++ decimal entry.context ++ menu_item entry.text)
entry-told entry = told-both _ (menu_item entry.text) (counted-told 67 84 entry.context (refl, (refl, tt))) (item-told entry.text)

pub menu-is : (entry : ConfiguredEntry) → (entry.name ≡ [] → ⊥) → HubLine (menu_line entry)
unfolding menu_line is_escaped
menu-is entry some =
    written (codes "ICMD") refl (32 ∷ escaped_text entry.name ++ codes " CT" ++ decimal entry.context ++ menu_item entry.text)
    (told-both _ (menu_item entry.text) (counted-more (32 ∷ escaped_text entry.name) 67 84 entry.context (refl, (refl, tt)) (told-last (escaped_text entry.name) (entry.name, some, refl)))
    (item-told entry.text))

pub removal-is : (target operator : ℕ) (seconds : Option ℕ) (reason : List ℕ) → target < sid_count → operator < sid_count → HubLine (removal_line target operator seconds reason)
unfolding removal_line is_escaped
removal-is target operator seconds reason small smaller =
    written (codes "IQUI") refl (32 ∷ sid_text target ++ codes " ID" ++ sid_text operator ++ ban_field seconds ++ text_field (codes " MS") reason)
    (told (sid_text target) _ (sid-parameter target small)
    (told (codes "ID" ++ sid_text operator) _ (named 73 (68 ∷ []) (sid_text operator) (refl, (refl, tt)) (plain-spelt _ (sid-plain operator smaller)))
    (told-both (ban_field seconds) (text_field (codes " MS") reason) (ban-told seconds) (reason-told reason))))

-- ---- statuses

plain-of : (word : List ℕ) → is_plain word ≡ true → IsPlain word
unfolding is_plain
plain-of [] is = tt
plain-of (b ∷ word) is = let tests = both (is_plain_byte b) (is_plain word) is in (tests.0, plain-of word tests.1)

-- a known text, and a flag with a spelling
flagged : (text : List ℕ) → are_words (words text) ≡ true → (a b : ℕ) (word : List ℕ) → IsPlain (a ∷ b ∷ []) → IsSpelt word → HubLine (with_line_feed (text ++ 32 ∷ a ∷ b ∷ word))
flagged text is a b word plain spelt = written text is (32 ∷ a ∷ b ∷ word) (told-last (a ∷ b ∷ word) (named a (b ∷ []) word plain spelt))

name-plain : (field : NamedField) → is_plain (name_of field) ≡ true
unfolding is_plain
name-plain field = grind arith

name-spelt : (field : NamedField) → IsSpelt (name_of field)
name-spelt field = plain-spelt (name_of field) (plain-of (name_of field) (name-plain field))

-- whether a flag stands behind the text of a denial
abbrev has_flag : Deny → Bool
has_flag (denials.BadStage word) = true
has_flag (denials.Missing field) = true
has_flag (denials.BadField severity field) = true
has_flag (denials.BannedFor seconds) = true
has_flag (denials.Address severity peer) = true
has_flag (denials.Access word) = true
has_flag deny = false

-- with none, the text is words
flagless : (deny : Deny) → has_flag deny ≡ false → are_words (words (denial_text deny)) ≡ true
unfolding denial_text is_escaped escape_means
flagless deny none = grind arith

pub status-is : (deny : Deny) → is_said deny ≡ true → HubLine (denial_line deny)
unfolding denial_text is_escaped escape_means
status-is (denials.BadStage word) said = flagged (codes "ISTA 144 Invalid\\sstate") refl 70 67 word (refl, (refl, tt)) (plain-spelt word (plain-of word said))
status-is (denials.Missing field) said = flagged (codes "ISTA 243 INF\\sfield\\smissing") refl 70 77 (name_of field) (refl, (refl, tt)) (name-spelt field)
status-is (denials.BadField Recoverable field) said = flagged (codes "ISTA 143 INF\\sfield\\sbad") refl 70 66 (name_of field) (refl, (refl, tt)) (name-spelt field)
status-is (denials.BadField Fatal field) said = flagged (codes "ISTA 243 INF\\sfield\\sbad") refl 70 66 (name_of field) (refl, (refl, tt)) (name-spelt field)
status-is (denials.BannedFor seconds) said = flagged (codes "ISTA 232 Banned") refl 84 76 (decimal seconds) (refl, (refl, tt)) (decimal-spelt seconds)
status-is (denials.Address Recoverable peer) said = flagged (codes "ISTA 146 Wrong\\saddress") refl 73 52 (dotted_decimal peer) (refl, (refl, tt)) (address-spelt peer)
status-is (denials.Address Fatal peer) said = flagged (codes "ISTA 246 Wrong\\saddress") refl 73 52 (dotted_decimal peer) (refl, (refl, tt)) (address-spelt peer)
status-is (denials.Access word) said = flagged (codes "ISTA 125 Access\\sdenied") refl 70 67 word (refl, (refl, tt)) (plain-spelt word (plain-of word said))
status-is deny said = subst (λ (text : List ℕ). HubLine (with_line_feed text)) (append-nil (denial_text deny)) (written (denial_text deny) (flagless deny refl) [] none-told)
