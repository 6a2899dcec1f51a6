-- The words of a line: numbers, addresses and challenges are read as they are written, and have no blanks.
use Rattle.std.proofs.Common.{◌≡◌, ◌∙◌, ap, refl, sym, subst, ℕ, ◌≤◌, ◌<◌, ◌^◌, ◌&&◌, Bool, true, false, eqb, ltb, leb, List, [], ◌∷◌, ◌++◌, length, get_or, drop, Option, Some, None, Result, Ok, Err, lit≤, arith}
use Rattle.std.proofs.lemmas.Bool.{and_from, and_parts, eqb-true, false≢true, le-leb, leb-true, lt-ltb, ltb-true, ne_eqb}
use Rattle.std.proofs.lemmas.Bool.Decides.{Decides-eqb}
use Rattle.std.proofs.lemmas.Fmt.{IsAscii-from_digits, decimal_is_IsNumeral}
use Rattle.std.proofs.lemmas.List.{append-nil, nil_from_length}
use Rattle.std.proofs.lemmas.Option.{cond_some, none-some, option_and_then_some}
use Rattle.std.proofs.lemmas.Slice.Eq.{starts_is}
use Rattle.std.proofs.lemmas.Str.{IsUtf8-from_ascii}
use Rattle.std.proofs.lemmas.Str.Parse.{digit_from_value, without_leading_plus_none}
use Rattle.std.proofs.NetLemmas.Ipv4.{read_ipv4_complete, read_ipv4_sound}
use Rattle.std.specs.Char.{is_digit}
use Rattle.std.specs.Fmt.{decimal}
use Rattle.std.specs.List.{list_all, starts_with}
use Rattle.std.specs.declared.net.ipv4_addr.Ipv4Addr.{Ipv4Addr}
use Rattle.std.specs.Net.Grammar.{IsDotted, IsIpv4Text}
use Rattle.std.specs.Net.Reader.{read_ipv4}
use Rattle.std.specs.Result.{OkIff, result_ok}
use Rattle.std.specs.Str.{IsUtf8}
use Rattle.std.specs.Str.Parse.{AllDigits, IsNumeral, ParsesUnsigned, digits_value}
use Rattle.adc_base32.specs.Digits.{value_at}
use Rattle.adc_base32.specs.Spelled.{numbers_from, is_digit as is_base32, spelled_bytes, spells}
use Rattle.adc_base32.specs.Bits.{text_bits}
use Rattle.history_check.proofs.Splits.{NoBlank}
use Rattle.history_check.specs.Reading.{first_word, is_number, read_address, read_count, read_number}
use Rattle.history_check.specs.Text.{IsChallenge, IsNumber}

pub no-blank-append : (xs ys : List ℕ) → NoBlank xs → NoBlank ys → NoBlank (xs ++ ys)
no-blank-append [] ys front back = back
no-blank-append (x ∷ xs) ys front back = (front.0, no-blank-append xs ys front.1 back)

-- ---- numbers

digits-from : (word : List ℕ) → list_all (λ c. is_digit c 10) word ≡ true → AllDigits 10 word
digits-from [] all = tt
digits-from (c ∷ word) all =
    let parts = and_parts (is_digit c 10) (list_all (λ c. is_digit c 10) word) all in
    (ltb-true _ 10 parts.0, digits-from word parts.1)

all-digits : (word : List ℕ) → AllDigits 10 word → list_all (λ c. is_digit c 10) word ≡ true
all-digits [] digits = refl
all-digits (c ∷ word) digits = and_from (is_digit c 10) (list_all (λ c. is_digit c 10) word) (lt-ltb _ 10 digits.0) (all-digits word digits.1)

pub number-takes : (word : List ℕ) (n : ℕ) → read_number word ≡ Some n → IsNumber word n
unfolding read_number
number-takes word n e =
    let chosen = cond_some (is_number word) (digits_value 10 word) n e in
    let outer = and_parts (ltb 0 (length word) && list_all (λ c. is_digit c 10) word) (ltb (digits_value 10 word) (2 ^ 64)) chosen.0 in
    let inner = and_parts (ltb 0 (length word)) (list_all (λ c. is_digit c 10) word) outer.0 in
    let small : digits_value 10 word < 2 ^ 64 = ltb-true _ (2 ^ 64) outer.1 in
    ((ltb-true 0 _ inner.0, digits-from word inner.1), chosen.1, subst (λ (m : ℕ). m < 2 ^ 64) chosen.1 small)

pub number-again : (word : List ℕ) (n : ℕ) → IsNumber word n → read_number word ≡ Some n
unfolding read_number
number-again word n is =
    let some = lt-ltb 0 (length word) is.0.0 in
    let digits = all-digits word is.0.1 in
    let small : ltb (digits_value 10 word) (2 ^ 64) ≡ true = lt-ltb _ (2 ^ 64) (subst (λ (m : ℕ). m < 2 ^ 64) (sym is.1) is.2) in
    rw (some, digits, small) (ap Some is.1)

digits-no-blank : (word : List ℕ) → AllDigits 10 word → NoBlank word
digits-no-blank [] digits = tt
digits-no-blank (c ∷ word) digits =
    let range = digit_from_value c digits.0 in
    (ne_eqb c 32 (λ is. omega (arith, range, is)), digits-no-blank word digits.1)

pub number-no-blank : (word : List ℕ) (n : ℕ) → IsNumber word n → NoBlank word
number-no-blank word n is = digits-no-blank word is.0.1

no-number : read_number (first_word []) ≡ None
unfolding read_number first_word
no-number = refl

empty-is-none : read_number [] ≡ None
unfolding read_number
empty-is-none = refl

pub number-some : (text : List ℕ) (n : ℕ) → read_number text ≡ Some n → text ≡ [] → ⊥
number-some text n e is = none-some n (sym empty-is-none ∙ ap read_number (sym is) ∙ e)

pub number-filled : (text : List ℕ) (n : ℕ) → read_number (first_word text) ≡ Some n → text ≡ [] → ⊥
number-filled text n e is = none-some n (sym no-number ∙ ap (λ (t : List ℕ). read_number (first_word t)) (sym is) ∙ e)

-- ---- numbers of lines that a take asks for

pub count-takes : (word : List ℕ) (n : ℕ) → read_count word ≡ Some n → IsNumber word n × (1 ≤ n) × (n ≤ 256)
unfolding read_count
count-takes word n e =
    option_and_then_some _ (read_number word) n e λ m is chosen.
    let which = cond_some (leb 1 m && leb m 256) m n chosen in
    let parts = and_parts (leb 1 m) (leb m 256) which.0 in
    let low : 1 ≤ m = leb-true 1 m parts.0 in
    let high : m ≤ 256 = leb-true m 256 parts.1 in
    subst (λ (k : ℕ). IsNumber word k × (1 ≤ k) × (k ≤ 256)) which.1 (number-takes word m is, low, high)

pub count-again : (word : List ℕ) (n : ℕ) → IsNumber word n → 1 ≤ n → n ≤ 256 → read_count word ≡ Some n
unfolding read_count
count-again word n is low high = rw (number-again word n is, le-leb 1 n low, le-leb n 256 high) refl

pub count-filled : (text : List ℕ) (n : ℕ) → read_count (first_word text) ≡ Some n → text ≡ [] → ⊥
unfolding read_count
count-filled text n e is = option_and_then_some _ (read_number (first_word text)) n e λ m read chosen. number-filled text m read is

-- ---- addresses

pub address-takes : (word octets : List ℕ) → read_address word ≡ Some octets → IsDotted word octets
unfolding read_address
address-takes word octets e =
    option_and_then_some _ (read_ipv4 word) octets e λ read is chosen.
    let which = cond_some (eqb (length read.1) 0) read.0 octets chosen in
    let sound = read_ipv4_sound word read.0 read.1 is in
    let rest : read.1 ≡ [] = nil_from_length read.1 (eqb-true _ 0 which.0) in
    let whole : word ≡ sound.0 = sound.1 ∙ ap (λ (t : List ℕ). sound.0 ++ t) rest ∙ append-nil sound.0 in
    subst (λ (t : List ℕ). IsDotted t octets) (sym whole) (subst (λ (o : List ℕ). IsDotted sound.0 o) which.1 sound.2)

pub address-again : (word octets : List ℕ) → IsDotted word octets → read_address word ≡ Some octets
unfolding read_address
address-again word octets is =
    let read : read_ipv4 word ≡ Some (octets, []) = ap read_ipv4 (sym (append-nil word)) ∙ read_ipv4_complete word octets [] is (lit≤ tt) in
    rw read refl

decimal-no-blank : (n : ℕ) → n < 256 → NoBlank (decimal n)
decimal-no-blank n small = digits-no-blank (decimal n) (decimal_is_IsNumeral n (omega (arith, small))).0.1

dot-append : (xs : List ℕ) (n : ℕ) → NoBlank xs → n < 256 → NoBlank ((xs ++ 46 ∷ []) ++ decimal n)
dot-append xs n front small =
    no-blank-append (xs ++ 46 ∷ []) (decimal n) (no-blank-append xs (46 ∷ []) front (refl, tt)) (decimal-no-blank n small)

pub address-no-blank : (word octets : List ℕ) → IsDotted word octets → NoBlank word
address-no-blank word octets is =
    subst NoBlank (sym is.spelled)
    (dot-append _ is.d (dot-append _ is.c (dot-append _ is.b (decimal-no-blank is.a is.fit.0) is.fit.1) is.fit.2) is.fit.3)

-- ---- challenges

blank-is-none : is_base32 32 ≡ false
unfolding value_at
blank-is-none = refl

base32-no-blank : (word : List ℕ) → list_all is_base32 word ≡ true → NoBlank word
base32-no-blank [] all = tt
base32-no-blank (c ∷ word) all =
    let parts = and_parts (is_base32 c) (list_all is_base32 word) all in
    (ne_eqb c 32 (λ is. false≢true (sym blank-is-none ∙ ap is_base32 (sym is) ∙ parts.0)), base32-no-blank word parts.1)

pub challenge-no-blank : (word challenge : List ℕ) → IsChallenge word challenge → NoBlank word
unfolding spelled_bytes
challenge-no-blank word challenge is =
    let chosen = cond_some (spells 24 word) (numbers_from 8 24 (text_bits word)) challenge is in
    base32-no-blank word (and_parts _ _ (and_parts _ _ chosen.0).0).1

no-challenge : spelled_bytes 24 (first_word []) ≡ None
unfolding spelled_bytes first_word
no-challenge = refl

pub challenge-filled : (text challenge : List ℕ) → IsChallenge (first_word text) challenge → text ≡ [] → ⊥
challenge-filled text challenge e is = none-some challenge (sym no-challenge ∙ ap (λ (t : List ℕ). spelled_bytes 24 (first_word t)) (sym is) ∙ e)

-- ---- as the library reads them

-- an option that holds nothing
pub none-from : {A : Type 0} (o : Option A) → ((x : A) → o ≡ Some x → ⊥) → None ≡ o
none-from None never = refl
none-from (Some x) never = absurd (never x refl)

pub plus-is-none : (word : List ℕ) (r : Bool) → r ≡ starts_with eqb word (43 ∷ []) → r ≡ true → None ≡ read_number word
plus-is-none word r is was = none-from (read_number word) λ n read.
    let shown = (starts_is Decides-eqb word (43 ∷ []) r is).0 was in
    let digits : AllDigits 10 (43 ∷ drop 1 word) = subst (AllDigits 10) shown (number-takes word n read).0.1 in
    omega (arith, digits.0)

no-plus : (word : List ℕ) (r : Bool) → r ≡ starts_with eqb word (43 ∷ []) → r ≡ false → get_or word 0 0 ≡ 43 → ⊥
no-plus [] r is not-so at = omega (arith, at)
no-plus (c ∷ word) r is not-so at =
    false≢true (sym not-so ∙ (starts_is Decides-eqb (c ∷ word) (43 ∷ []) r is).1 word (ap (λ (x : ℕ). x ∷ word) at))

parsed-at : {E : Type 0} (word : List ℕ) (r : Result ℕ E) → OkIff r (IsNumeral 10 word × (digits_value 10 word < 2 ^ 64)) (digits_value 10 word)
    → result_ok r ≡ read_number word
parsed-at word (Ok n) is = sym (number-again word n (is.0.0, sym is.1, subst (λ (m : ℕ). m < 2 ^ 64) (sym is.1) is.0.1))
parsed-at word (Err e) is = none-from (read_number word) λ n read.
    let number = number-takes word n read in
    is (number.0, subst (λ (m : ℕ). m < 2 ^ 64) (sym number.1) number.2)

pub parsed : {E : Type 0} (word : List ℕ) (plus : Bool) (r : Result ℕ E) → plus ≡ starts_with eqb word (43 ∷ []) → plus ≡ false → ParsesUnsigned 64 10 word r
    → result_ok r ≡ read_number word
parsed {E} word plus r is not-so parses =
    let plain = without_leading_plus_none word (no-plus word plus is not-so) in
    parsed-at word r (subst (λ (ds : List ℕ). OkIff r (IsNumeral 10 ds × (digits_value 10 ds < 2 ^ 64)) (digits_value 10 ds)) plain parses)

pub no-text : (word : List ℕ) → (IsUtf8 word → ⊥) → None ≡ read_number word
no-text word none = none-from (read_number word) λ n read. none (IsUtf8-from_ascii word (IsAscii-from_digits word (number-takes word n read).0.1))

pub no-address : (word : List ℕ) → ((a : Ipv4Addr) → IsIpv4Text word a → ⊥) → None ≡ read_address word
no-address word none = none-from (read_address word) λ octets read. none (record { octets = octets }) (address-takes word octets read)
