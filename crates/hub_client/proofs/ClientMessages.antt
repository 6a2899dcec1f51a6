-- A login, an answer to a challenge and a text to all are messages of the grammar.
use Rattle.std.proofs.Common.{◌≡◌, ◌≢◌, ◌⊎◌, inl, inr, refl, sym, ap, subst, ◌∙◌, ℕ, ◌+◌, ◌*◌, ◌/◌, ◌%◌, ◌<◌, ◌≤◌, Bool, true, false, ◌&&◌, nat_lt, List, [], ◌∷◌, ◌++◌, length, All, None, Some, append_assoc, append-nil, length-append, arith}
use Rattle.std.specs.Prelude.{codes, chars, IfErr, IsSome, Result, Ok, Err, if◌then◌else◌, ◌==◌}
use Rattle.std.specs.List.{list_all}
use Rattle.std.specs.Option.{is_some}
use Rattle.std.specs.Str.{IsUtf8}
use Rattle.std.proofs.lemmas.Bool.{cases_lt, false≢true}
use Rattle.std.proofs.lemmas.Bool.Decides.{nat_tests}
use Rattle.std.proofs.lemmas.List.Elements.{All-cons, All-nil, All-head, All-tail}
use Rattle.std.proofs.lemmas.Str.{IsUtf8-append, IsUtf8-from_ascii, encodes-chars, length-encode, len_utf8_bounds}
use Rattle.std.proofs.lemmas.Str.Ascii.{IsAscii-from_all}
use Rattle.std.proofs.Math.Utf8.{encode, encodes}
use Rattle.adc_ids.specs.Nicks.{is_nick}
use Rattle.adc_ids.proofs.Points.{is_nick-Decides}
use Rattle.adc_base32.specs.Bits.{AreDigits}
use Rattle.adc_base32.specs.Digits.{digit_of, value_at}
use Rattle.adc_base32.specs.Spelled.{spelling}
use Rattle.adc_base32.specs.Sids.{sid_count, sid_text}
use Rattle.adc_base32.proofs.Spelling.{value_at-digit_of}
use Rattle.adc_line.specs.declared.header.Kind.TheVariants as kinds
use Rattle.adc_line.specs.Escapes.{escaped_text, escaped_byte, is_special}
use Rattle.adc_line.specs.Frames.{max_line}
use Rattle.adc_line.specs.Grammar.{Reads, IsParameter}
use Rattle.adc_line.specs.Lines.{Reading}
use Rattle.adc_line.proofs.EscapeLemmas.{escaped-cons, escaped-nil, escaped-plain}
use Rattle.hub_client.specs.declared.fault.ClientFault.{ClientFault}
use Rattle.hub_client.specs.declared.fault.ClientFault.TheVariants as faults
use Rattle.hub_client.specs.Sayings.{IsSpelt, chat_text, identifiers_text, login_text}

-- a word of ASCII

both : (a b : Bool) → (a && b) ≡ true → (a ≡ true) × (b ≡ true)
both true b e = (refl, e)
both false b e = absurd (false≢true e)

low-literal : (word : List ℕ) → list_all (λ b. nat_lt b 128) word ≡ true → All (λ b. b < 128) word
low-literal [] e = All-nil (λ b. b < 128)
low-literal (b ∷ word) e =
    let tests = both (nat_lt b 128) (list_all (λ c. nat_lt c 128) word) e in
    let test : nat_lt b 128 ≡ true = tests.0 in
    All-cons (λ c. c < 128) b word (grind (arith, nat_tests)) (low-literal word tests.1)

utf8-literal : (word : List ℕ) → list_all (λ b. nat_lt b 128) word ≡ true → IsUtf8 word
utf8-literal word e = IsUtf8-from_ascii word (IsAscii-from_all word (low-literal word e))

-- digits of base32 stand for themselves

digit-plain : (c : ℕ) → IsSome (value_at c) → is_special c ≡ false
unfolding value_at
digit-plain c is = grind (arith, nat_tests)

digit-ascii : (c : ℕ) → IsSome (value_at c) → c < 128
unfolding value_at
digit-ascii c is = grind (arith, nat_tests)

digits-plain : (word : List ℕ) → AreDigits word → All (λ c. is_special c ≡ false) word
digits-plain [] are = All-nil (λ c. is_special c ≡ false)
digits-plain (c ∷ word) are =
    All-cons (λ x. is_special x ≡ false) c word (digit-plain c (All-head (λ x. IsSome (value_at x)) c word are))
    (digits-plain word (All-tail (λ x. IsSome (value_at x)) c word are))

digits-low : (word : List ℕ) → AreDigits word → All (λ c. c < 128) word
digits-low [] are = All-nil (λ c. c < 128)
digits-low (c ∷ word) are =
    All-cons (λ x. x < 128) c word (digit-ascii c (All-head (λ x. IsSome (value_at x)) c word are))
    (digits-low word (All-tail (λ x. IsSome (value_at x)) c word are))

digits-utf8 : (word : List ℕ) → AreDigits word → IsUtf8 word
digits-utf8 word are = IsUtf8-from_ascii word (IsAscii-from_all word (digits-low word are))

escaped-digits : (word : List ℕ) → AreDigits word → escaped_text word ≡ word
escaped-digits word are =
    ap escaped_text (sym (append-nil word)) ∙ escaped-plain word [] (digits-plain word are) ∙ ap (λ more. word ++ more) escaped-nil ∙ append-nil word

digit-is : (value : ℕ) → value < 32 → IsSome (value_at (digit_of value))
digit-is value below = ap is_some (value_at-digit_of value below)

sid-digits : (sid : ℕ) → sid < sid_count → AreDigits (sid_text sid)
sid-digits sid below =
    let Is : ℕ → Type 0 = λ c. IsSome (value_at c) in
    let a : ℕ = digit_of (sid / 32768) in
    let b : ℕ = digit_of (sid / 1024 % 32) in
    let c : ℕ = digit_of (sid / 32 % 32) in
    let d : ℕ = digit_of (sid % 32) in
    All-cons Is a (b ∷ c ∷ d ∷ []) (digit-is (sid / 32768) (omega arith)) (All-cons Is b (c ∷ d ∷ []) (digit-is (sid / 1024 % 32) (omega arith))
    (All-cons Is c (d ∷ []) (digit-is (sid / 32 % 32) (omega arith)) (All-cons Is d [] (digit-is (sid % 32) (omega arith)) (All-nil Is))))

-- a text to all

abbrev pub chat_message : ℕ → List ℕ → Reading
chat_message sid text = record {
  text = chat_text sid text;
  kind = kinds.Broadcast;
  command = codes "MSG";
  from = Some sid;
  target = None;
  features = None;
  params = escaped_text text ∷ [];
}

chat-utf8 : (sid : ℕ) (text : List ℕ) → sid < sid_count → IsUtf8 (escaped_text text) → IsUtf8 (chat_text sid text)
chat-utf8 sid text below utf8 =
    IsUtf8-append (codes "BMSG ") (sid_text sid ++ 32 ∷ escaped_text text) (utf8-literal (codes "BMSG ") refl)
    (IsUtf8-append (sid_text sid) (32 ∷ escaped_text text) (digits-utf8 (sid_text sid) (sid-digits sid below))
    (IsUtf8-append (32 ∷ []) (escaped_text text) (utf8-literal (32 ∷ []) refl) utf8))

pub reads-chat : (sid : ℕ) (text : List ℕ) → sid < sid_count → text ≢ [] → IsUtf8 (escaped_text text) → length (chat_text sid text) ≤ max_line
    → Reads (chat_text sid text) (chat_message sid text)
reads-chat sid text below some utf8 short = record {
  text = refl;
  short = short;
  utf8 = chat-utf8 sid text below utf8;
  command = (77, 83, 71, refl, refl, refl, refl);
  addresses = sid_text sid ∷ [];
  addressed = (sid, below, refl, refl, refl, refl);
  params = All-cons IsParameter (escaped_text text) [] (text, some, refl) (All-nil IsParameter);
  spelt = refl;
}

-- who refuses it has a text that is empty, or too many bytes
pub unsayable-chat : (sid : ℕ) (text bytes : List ℕ) (result : Result Reading ClientFault) → sid < sid_count → IsUtf8 (escaped_text text)
    → bytes ≡ chat_text sid text → ((line : Reading) → Reads bytes line → IfErr result (λ fault. fault ≡ faults.Memory))
    → IfErr result (λ fault. fault ≡ faults.Unsayable → (text ≡ []) ⊎ (max_line < length (chat_text sid text)))
unsayable-chat sid text bytes (Ok line) below utf8 is refused = tt
unsayable-chat sid [] bytes (Err fault) below utf8 is refused = λ unsayable. inl refl
unsayable-chat sid (b ∷ bs) bytes (Err fault) below utf8 is refused = λ unsayable.
    elim (cases_lt max_line (length (chat_text sid (b ∷ bs)))) [
      | inl long ↦ inr long
      | inr short ↦
          let reads : Reads bytes (chat_message sid (b ∷ bs)) =
          subst (λ (them : List ℕ). Reads them (chat_message sid (b ∷ bs))) (sym is) (reads-chat sid (b ∷ bs) below (λ none. cc) utf8 short) in
          let memory : fault ≡ faults.Memory = refused (chat_message sid (b ∷ bs)) reads in
          let bad : faults.Memory ≡ faults.Unsayable = sym memory ∙ unsayable in absurd cc
    ]

-- an answer to a challenge

abbrev pub password_message : List ℕ → Reading
password_message word = record {
  text = codes "HPAS " ++ word;
  kind = kinds.Hub;
  command = codes "PAS";
  from = None;
  target = None;
  features = None;
  params = word ∷ [];
}

some-digits : (word : List ℕ) → 0 < length word → word ≢ []
some-digits [] more = λ none. omega arith
some-digits (c ∷ word) more = λ none. cc

digits-parameter : (word : List ℕ) → 0 < length word → AreDigits word → IsParameter word
digits-parameter word more are = (word, some-digits word more, sym (escaped-digits word are))

pub reads-password : (word : List ℕ) → length word ≡ 39 → AreDigits word → Reads (codes "HPAS " ++ word) (password_message word)
reads-password word long are = record {
  text = refl;
  short = omega arith;
  utf8 = IsUtf8-append (codes "HPAS ") word (utf8-literal (codes "HPAS ") refl) (digits-utf8 word are);
  command = (80, 65, 83, refl, refl, refl, refl);
  addresses = [];
  addressed = (refl, refl, refl, refl);
  params = All-cons IsParameter word [] (digits-parameter word (omega arith) are) (All-nil IsParameter);
  spelt = refl;
}

-- a login

-- the parameter with this name and this value
labelled : (a b : ℕ) (word : List ℕ) → IsSome (value_at a) → IsSome (value_at b) → AreDigits word → IsParameter (a ∷ b ∷ word)
labelled a b word first second are =
    let Is : ℕ → Type 0 = λ c. IsSome (value_at c) in
    digits-parameter (a ∷ b ∷ word) (omega arith) (All-cons Is a (b ∷ word) first (All-cons Is b word second are))

named : (nick : List ℕ) → IsParameter (codes "NI" ++ escaped_text nick)
unfolding escaped_text
named nick = (codes "NI" ++ nick, (λ (none : codes "NI" ++ nick ≡ []). cc), refl)

shares : IsParameter (codes "SS0")
unfolding escaped_text
shares = (codes "SS0", (λ (none : codes "SS0" ≡ []). cc), refl)

files : IsParameter (codes "SF0")
unfolding escaped_text
files = (codes "SF0", (λ (none : codes "SF0" ≡ []). cc), refl)

version : IsParameter (codes "VEadc-hubctl\\s1.0")
unfolding escaped_text
version = (codes "VEadc-hubctl 1.0", (λ (none : codes "VEadc-hubctl 1.0" ≡ []). cc), refl)

abbrev pub login_params : List ℕ → List ℕ → List ℕ → List (List ℕ)
login_params cid private nick =
    (codes "ID" ++ spelling cid) ∷ (codes "PD" ++ spelling private) ∷ (codes "NI" ++ escaped_text nick)
    ∷ codes "SS0" ∷ codes "SF0" ∷ codes "VEadc-hubctl\\s1.0" ∷ []

abbrev pub login_message : ℕ → List ℕ → List ℕ → List ℕ → Reading
login_message sid cid private nick = record {
  text = login_text sid cid private nick;
  kind = kinds.Broadcast;
  command = codes "INF";
  from = Some sid;
  target = None;
  features = None;
  params = login_params cid private nick;
}

login-params : (cid private nick : List ℕ) → AreDigits (spelling cid) → AreDigits (spelling private) → All IsParameter (login_params cid private nick)
unfolding value_at
login-params cid private nick cids privates =
    let one : List (List ℕ) = codes "VEadc-hubctl\\s1.0" ∷ [] in
    let two : List (List ℕ) = codes "SF0" ∷ one in
    let three : List (List ℕ) = codes "SS0" ∷ two in
    let four : List (List ℕ) = (codes "NI" ++ escaped_text nick) ∷ three in
    let five : List (List ℕ) = (codes "PD" ++ spelling private) ∷ four in
    All-cons IsParameter (codes "ID" ++ spelling cid) five (labelled 73 68 (spelling cid) refl refl cids)
    (All-cons IsParameter (codes "PD" ++ spelling private) four (labelled 80 68 (spelling private) refl refl privates)
    (All-cons IsParameter (codes "NI" ++ escaped_text nick) three (named nick) (All-cons IsParameter (codes "SS0") two shares
    (All-cons IsParameter (codes "SF0") one files (All-cons IsParameter (codes "VEadc-hubctl\\s1.0") [] version (All-nil IsParameter))))))

-- a nick has few bytes

escaped_byte-short : (b : ℕ) → length (escaped_byte b) ≤ 2
escaped_byte-short b = by_tests (b == 32) (b == 10) (b == 92)
  where
    by_tests : (x y z : Bool) → length (if x then 92 ∷ 115 ∷ [] else if y then 92 ∷ 110 ∷ [] else if z then 92 ∷ 92 ∷ [] else b ∷ []) ≤ 2
    by_tests true y z = omega arith
    by_tests false true z = omega arith
    by_tests false false true = omega arith
    by_tests false false false = omega arith

escaped-short : (text : List ℕ) → length (escaped_text text) ≤ 2 * length text
escaped-short [] = subst (λ (word : List ℕ). length word ≤ 0) (sym escaped-nil) (omega arith)
escaped-short (b ∷ text) =
    let long : length (escaped_text (b ∷ text)) ≡ length (escaped_byte b) + length (escaped_text text) =
    ap length (escaped-cons b text) ∙ length-append (escaped_byte b) (escaped_text text) in
    let first = escaped_byte-short b in
    let rest = escaped-short text in omega arith

encodes-short : (points : List ℕ) → length (encodes points) ≤ 4 * length points
encodes-short [] = omega arith
encodes-short (c ∷ points) =
    let long : length (encodes (c ∷ points)) ≡ length (encode c) + length (encodes points) = length-append (encode c) (encodes points) in
    let first : length (encode c) ≤ 4 = subst (λ n. n ≤ 4) (sym (length-encode c)) (len_utf8_bounds c).1 in
    let rest = encodes-short points in omega arith

pub nick-short : (nick : List ℕ) → IsUtf8 nick → is_nick (chars nick) ≡ true → length (escaped_text nick) ≤ 512
nick-short nick utf8 is =
    let points : length (chars nick) ≤ 64 = ((is_nick-Decides (chars nick)).0 is).1 in
    let bytes : length nick ≤ 4 * length (chars nick) = subst (λ (them : List ℕ). length them ≤ 4 * length (chars nick)) (encodes-chars nick utf8) (encodes-short (chars nick)) in
    let spelt = escaped-short nick in omega arith

-- what stands behind the three identifiers
abbrev rest_of : List ℕ → List ℕ
rest_of nick = codes " NI" ++ (escaped_text nick ++ codes " SS0 SF0 VEadc-hubctl\\s1.0")

-- a login from its front to its end
abbrev login_spelt : ℕ → List ℕ → List ℕ → List ℕ → List ℕ
login_spelt sid cid private nick =
    codes "BINF " ++ (sid_text sid ++ (codes " ID" ++ (spelling cid ++ (codes " PD" ++ (spelling private ++ rest_of nick)))))

login-spelt : (sid : ℕ) (cid private nick : List ℕ) → login_text sid cid private nick ≡ login_spelt sid cid private nick
login-spelt sid cid private nick =
    let head : List ℕ = codes "BINF " ++ sid_text sid ++ codes " ID" in
    let front : List ℕ = identifiers_text sid cid private in
    let end : List ℕ = codes " SS0 SF0 VEadc-hubctl\\s1.0" in
    append_assoc (front ++ codes " NI") (escaped_text nick) end ∙ append_assoc front (codes " NI") (escaped_text nick ++ end)
    ∙ append_assoc (head ++ spelling cid ++ codes " PD") (spelling private) (rest_of nick)
    ∙ append_assoc (head ++ spelling cid) (codes " PD") (spelling private ++ rest_of nick)
    ∙ append_assoc head (spelling cid) (codes " PD" ++ (spelling private ++ rest_of nick))

login-utf8 : (sid : ℕ) (cid private nick : List ℕ) → sid < sid_count → AreDigits (spelling cid) → AreDigits (spelling private) → IsUtf8 (escaped_text nick)
    → IsUtf8 (login_spelt sid cid private nick)
login-utf8 sid cid private nick below cids privates utf8 =
    let end : List ℕ = codes " SS0 SF0 VEadc-hubctl\\s1.0" in
    let rest : IsUtf8 (rest_of nick) =
    IsUtf8-append (codes " NI") (escaped_text nick ++ end) (utf8-literal (codes " NI") refl) (IsUtf8-append (escaped_text nick) end utf8 (utf8-literal end refl)) in
    let own : IsUtf8 (codes " PD" ++ (spelling private ++ rest_of nick)) =
    IsUtf8-append (codes " PD") (spelling private ++ rest_of nick) (utf8-literal (codes " PD") refl)
    (IsUtf8-append (spelling private) (rest_of nick) (digits-utf8 (spelling private) privates) rest) in
    let both : IsUtf8 (codes " ID" ++ (spelling cid ++ (codes " PD" ++ (spelling private ++ rest_of nick)))) =
    IsUtf8-append (codes " ID") (spelling cid ++ (codes " PD" ++ (spelling private ++ rest_of nick))) (utf8-literal (codes " ID") refl)
    (IsUtf8-append (spelling cid) (codes " PD" ++ (spelling private ++ rest_of nick)) (digits-utf8 (spelling cid) cids) own) in
    IsUtf8-append (codes "BINF ") (sid_text sid ++ (codes " ID" ++ (spelling cid ++ (codes " PD" ++ (spelling private ++ rest_of nick)))))
    (utf8-literal (codes "BINF ") refl)
    (IsUtf8-append (sid_text sid) (codes " ID" ++ (spelling cid ++ (codes " PD" ++ (spelling private ++ rest_of nick))))
    (digits-utf8 (sid_text sid) (sid-digits sid below)) both)

login-short : (sid : ℕ) (cid private nick : List ℕ) → length (spelling cid) ≡ 39 → length (spelling private) ≡ 39 → length (escaped_text nick) ≤ 512
    → length (login_spelt sid cid private nick) ≤ max_line
login-short sid cid private nick cids privates short =
    let end : length (escaped_text nick ++ codes " SS0 SF0 VEadc-hubctl\\s1.0") ≡ length (escaped_text nick) + 26 =
    length-append (escaped_text nick) (codes " SS0 SF0 VEadc-hubctl\\s1.0") in
    let own : length (spelling private ++ rest_of nick) ≡ length (spelling private) + length (rest_of nick) = length-append (spelling private) (rest_of nick) in
    let both : length (spelling cid ++ (codes " PD" ++ (spelling private ++ rest_of nick)))
    ≡ length (spelling cid) + length (codes " PD" ++ (spelling private ++ rest_of nick)) =
    length-append (spelling cid) (codes " PD" ++ (spelling private ++ rest_of nick)) in
    omega arith

pub reads-login : (sid : ℕ) (cid private nick : List ℕ) → sid < sid_count → IsSpelt cid → IsSpelt private → IsUtf8 (escaped_text nick) → length (escaped_text nick) ≤ 512
    → Reads (login_text sid cid private nick) (login_message sid cid private nick)
reads-login sid cid private nick below cids privates utf8 short = record {
  text = refl;
  short = subst (λ (text : List ℕ). length text ≤ max_line) (sym (login-spelt sid cid private nick))
      (login-short sid cid private nick cids.0 privates.0 short);
  utf8 = subst IsUtf8 (sym (login-spelt sid cid private nick)) (login-utf8 sid cid private nick below cids.1 privates.1 utf8);
  command = (73, 78, 70, refl, refl, refl, refl);
  addresses = sid_text sid ∷ [];
  addressed = (sid, below, refl, refl, refl, refl);
  params = login-params cid private nick cids.1 privates.1;
  spelt = login-spelt sid cid private nick;
}
