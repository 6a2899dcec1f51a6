-- The bytes that a text spells are those of the relation: its bits, cut into eights, are the bytes.
use Rattle.std.proofs.Common.{◌≡◌, ◌≢◌, ◌∙◌, sym, ap, ap₂, refl, ℕ, zero, suc, ◌+◌, ◌*◌, ◌-◌, ◌/◌, ◌%◌, ◌^◌, ◌<◌, ◌&&◌, ◌==◌, Bool, true, false, ◌∷◌, [], ◌++◌, List, length, map, replicate, take, drop, Option, Some, None, IsSome, unwrap_or, subst, arith, append_assoc, cond}
use Rattle.std.specs.List.{All, list_all}
use Rattle.std.proofs.lemmas.Bool.{false≢true, eq-eqb, eqb-true}
use Rattle.std.proofs.lemmas.List.Elements.{All-head, All-tail, All-cons, All-nil}
use Rattle.std.proofs.lemmas.Nat.{mod-pow-add}
use Rattle.std.proofs.Math.Nat.{pow-succ'}
use Rattle.std.proofs.lemmas.List.{length-drop}
use Rattle.std.proofs.Math.Seq.{take-append_seam, drop-append_seam}
use Rattle.adc_base32.specs.Bits.{bits, byte_bits, text_bits, value_of, AreDigits, IsBase32, text_len}
use Rattle.adc_base32.specs.Digits.{digit_of, value_at}
use Rattle.adc_base32.specs.Spelled.{number_from, numbers_from, is_digit, spells, spelled_bytes, spelling}
use Rattle.adc_base32.proofs.Spelling.{digit_of-value_at}
use Rattle.adc_base32.proofs.BitLists.{length-bits}
use Rattle.adc_base32.proofs.Codes.{digit_bits, length-byte_bits, length-text_bits}

abbrev bytes_from : ℕ → List ℕ → List ℕ
bytes_from n bits = numbers_from 8 n bits

abbrev digits_from : ℕ → List ℕ → List ℕ
digits_from n bits = map digit_of (numbers_from 5 n bits)

abbrev is_zero : ℕ → Bool
is_zero bit = bit == 0

regroup : (high bit p r : ℕ) → (high * 2 + bit) * p + r ≡ high * (2 * p) + (bit * p + r)
regroup high bit p r = grind (arith)

number_from-cons : (high bit : ℕ) (rest : List ℕ) → number_from high (bit ∷ rest) ≡ number_from (high * 2 + bit) rest
unfolding number_from
number_from-cons high bit rest = refl

number_from-none : (high : ℕ) → number_from high [] ≡ high
unfolding number_from
number_from-none high = refl

bits-suc : (k n : ℕ) → bits (suc k) n ≡ n / 2 ^ k % 2 ∷ bits k n
unfolding bits
bits-suc k n = refl

bits-none : (n : ℕ) → bits 0 n ≡ []
unfolding bits
bits-none n = refl

number_from-bits : (k high n : ℕ) → number_from high (bits k n) ≡ high * 2 ^ k + n % 2 ^ k
number_from-bits zero high n = ap (number_from high) (bits-none n) ∙ number_from-none high ∙ omega arith
number_from-bits (suc k) high n =
    let one : suc k ≡ 1 + k = omega arith in
    let split : n % 2 ^ suc k ≡ (n / 2 ^ k % 2) * 2 ^ k + n % 2 ^ k = ap (λ i. n % 2 ^ i) one ∙ mod-pow-add n 1 k in
    ap (number_from high) (bits-suc k n)
    ∙ number_from-cons high (n / 2 ^ k % 2) (bits k n)
    ∙ number_from-bits k (high * 2 + n / 2 ^ k % 2) n
    ∙ regroup high (n / 2 ^ k % 2) (2 ^ k) (n % 2 ^ k)
    ∙ ap₂ (λ (p x : ℕ). high * p + x) (sym (pow-succ' 2 k)) (sym split)

byte-read : (b : ℕ) → b < 256 → number_from 0 (bits 8 b) ≡ b
byte-read b below = number_from-bits 8 0 b ∙ omega (arith, below)

bytes_from-cons : (n b : ℕ) (rest : List ℕ) → b < 256 → bytes_from (suc n) (bits 8 b ++ rest) ≡ b ∷ bytes_from n rest
unfolding numbers_from
bytes_from-cons n b rest below =
    ap₂ (λ (x : ℕ) (xs : List ℕ). x ∷ xs)
    (ap (number_from 0) (ap (λ k. take k (bits 8 b ++ rest)) (sym (length-bits 8 b)) ∙ take-append_seam (bits 8 b) rest) ∙ byte-read b below)
    (ap (bytes_from n) (ap (λ k. drop k (bits 8 b ++ rest)) (sym (length-bits 8 b)) ∙ drop-append_seam (bits 8 b) rest))

abbrev IsDigit : ℕ → Type 0
IsDigit c = IsSome (value_at c)

both : (a b : Bool) → (a && b) ≡ true → (a ≡ true) × (b ≡ true)
both true b e = (refl, e)
both false b e = absurd (false≢true e)

-- bytes are read off their bits
bytes_from-byte_bits : (bytes rest : List ℕ) → All (λ b. b < 256) bytes → bytes_from (length bytes) (byte_bits bytes ++ rest) ≡ bytes
unfolding numbers_from
bytes_from-byte_bits [] rest small = refl
bytes_from-byte_bits (b ∷ bytes) rest small =
    ap (bytes_from (suc (length bytes))) (append_assoc (bits 8 b) (byte_bits bytes) rest)
    ∙ bytes_from-cons (length bytes) b (byte_bits bytes ++ rest) (All-head (λ x. x < 256) b bytes small)
    ∙ ap (λ (xs : List ℕ). b ∷ xs) (bytes_from-byte_bits bytes rest (All-tail (λ x. x < 256) b bytes small))

all-digits : (text : List ℕ) → AreDigits text → list_all is_digit text ≡ true
all-digits [] h = refl
all-digits (c ∷ text) h = ap₂ ◌&&◌ (All-head IsDigit c text h) (all-digits text (All-tail IsDigit c text h))

digits-all : (text : List ℕ) → list_all is_digit text ≡ true → AreDigits text
digits-all [] e = All-nil IsDigit
digits-all (c ∷ text) e = let tests = both (is_digit c) (list_all is_digit text) e in All-cons IsDigit c text tests.0 (digits-all text tests.1)

all-zeros : (k : ℕ) → list_all is_zero (replicate k 0) ≡ true
all-zeros zero = refl
all-zeros (suc k) = all-zeros k

zeros-all : (xs : List ℕ) → list_all is_zero xs ≡ true → xs ≡ replicate (length xs) 0
zeros-all [] e = refl
zeros-all (x ∷ xs) e = let tests = both (is_zero x) (list_all is_zero xs) e in ap₂ (λ (y : ℕ) (ys : List ℕ). y ∷ ys) (eqb-true x 0 tests.0) (zeros-all xs tests.1)

-- a text that spells bytes spells these alone
pub spelled-of : (n : ℕ) (text bytes : List ℕ) → length bytes ≡ n → IsBase32 text bytes → All (λ b. b < 256) bytes → spelled_bytes n text ≡ Some bytes
unfolding spelled_bytes
spelled-of n text bytes long spelt small =
    let seam : text_bits text ≡ byte_bits bytes ++ replicate (5 * length text - 8 * length bytes) 0 = spelt.2 in
    let fits : (length text == text_len n) ≡ true = ap (λ k. length text == text_len k) (sym long) ∙ eq-eqb (length text) (text_len (length bytes)) spelt.0 in
    let rest : drop (8 * n) (text_bits text) ≡ replicate (5 * length text - 8 * length bytes) 0 =
    ap (λ k. drop k (text_bits text)) (ap (λ k. 8 * k) (sym long) ∙ sym (length-byte_bits bytes))
    ∙ ap (drop (length (byte_bits bytes))) seam ∙ drop-append_seam (byte_bits bytes) (replicate (5 * length text - 8 * length bytes) 0) in
    let zeros : list_all is_zero (drop (8 * n) (text_bits text)) ≡ true = ap (list_all is_zero) rest ∙ all-zeros (5 * length text - 8 * length bytes) in
    ap₂ (λ b bytes. cond b (Some bytes) None) (ap₂ ◌&&◌ (ap₂ ◌&&◌ fits (all-digits text spelt.1)) zeros)
    (ap₂ bytes_from (sym long) seam ∙ bytes_from-byte_bits bytes (replicate (5 * length text - 8 * length bytes) 0) small)

unspelled : (n : ℕ) (text : List ℕ) → spells n text ≡ false → spelled_bytes n text ≡ None
unfolding spelled_bytes
unspelled n text fails = ap (λ b. cond b (Some (bytes_from n (text_bits text))) None) fails

refuted : (b : Bool) → (b ≡ true → ⊥) → b ≡ false
refuted true against = absurd (against refl)
refuted false against = refl

-- of another length, it spells none
pub spelled-length : (n : ℕ) (text : List ℕ) → length text ≢ text_len n → spelled_bytes n text ≡ None
spelled-length n text long =
    unspelled n text (refuted (spells n text) (λ yes. long (eqb-true (length text) (text_len n)
    (both (length text == text_len n) (list_all is_digit text) (both (length text == text_len n && list_all is_digit text) (list_all is_zero (drop (8 * n) (text_bits text))) yes).0).0)))

-- with a character that is no digit, it spells none
pub spelled-digits : (n : ℕ) (text : List ℕ) → (AreDigits text → ⊥) → spelled_bytes n text ≡ None
spelled-digits n text odd =
    unspelled n text (refuted (spells n text) (λ yes. odd (digits-all text
    (both (length text == text_len n) (list_all is_digit text) (both (length text == text_len n && list_all is_digit text) (list_all is_zero (drop (8 * n) (text_bits text))) yes).0).1)))

-- with other bits than zeros behind the bytes, it spells none
pub spelled-zeros : (n : ℕ) (text : List ℕ) → (drop (8 * n) (text_bits text) ≡ replicate (5 * length text - 8 * n) 0 → ⊥) → spelled_bytes n text ≡ None
spelled-zeros n text odd =
    unspelled n text (refuted (spells n text) (λ yes.
    let zeros = (both (length text == text_len n && list_all is_digit text) (list_all is_zero (drop (8 * n) (text_bits text))) yes).1 in
    odd (zeros-all (drop (8 * n) (text_bits text)) zeros
    ∙ ap (λ k. replicate k 0) (length-drop (8 * n) (text_bits text) ∙ ap (λ k. k - 8 * n) (length-text_bits text)))))

value-cases : (c : ℕ) (found : Option ℕ) → value_at c ≡ found → IsSome found → (value_of c < 32) × (digit_of (value_of c) ≡ c)
unfolding value_of
value-cases c (Some v) is some =
    let told = digit_of-value_at c v is in
    let same : unwrap_or (value_at c) 0 ≡ v = ap (λ o. unwrap_or o 0) is in
    (subst (λ x. x < 32) (sym same) told.1, ap digit_of same ∙ told.0)
value-cases c None is some = absurd (false≢true some)

value-below : (c : ℕ) → IsDigit c → value_of c < 32
value-below c digit = (value-cases c (value_at c) refl digit).0

digit-back : (c : ℕ) → IsDigit c → digit_of (value_of c) ≡ c
digit-back c digit = (value-cases c (value_at c) refl digit).1

digits_from-cons : (n c : ℕ) (rest : List ℕ) → IsDigit c → digits_from (suc n) (digit_bits c ++ rest) ≡ c ∷ digits_from n rest
unfolding numbers_from
digits_from-cons n c rest digit =
    let long : length (digit_bits c) ≡ 5 = length-bits 5 (value_of c) in
    let small : value_of c < 32 = value-below c digit in
    ap₂ (λ (x : ℕ) (xs : List ℕ). x ∷ xs)
    (ap (λ xs. digit_of (number_from 0 xs)) (ap (λ k. take k (digit_bits c ++ rest)) (sym long) ∙ take-append_seam (digit_bits c) rest)
    ∙ ap digit_of (number_from-bits 5 0 (value_of c) ∙ omega (arith, small)) ∙ digit-back c digit)
    (ap (digits_from n) (ap (λ k. drop k (digit_bits c ++ rest)) (sym long) ∙ drop-append_seam (digit_bits c) rest))

-- digits are read off their bits
digits_from-text_bits : (text : List ℕ) → AreDigits text → digits_from (length text) (text_bits text) ≡ text
unfolding numbers_from
digits_from-text_bits [] h = refl
digits_from-text_bits (c ∷ text) h =
    digits_from-cons (length text) c (text_bits text) (All-head IsDigit c text h) ∙ ap (λ (xs : List ℕ). c ∷ xs) (digits_from-text_bits text (All-tail IsDigit c text h))

-- bytes have one spelling
pub spelling-of : (text bytes : List ℕ) → IsBase32 text bytes → text ≡ spelling bytes
unfolding spelling
spelling-of text bytes spelt =
    sym (digits_from-text_bits text spelt.1)
    ∙ ap₂ digits_from spelt.0 (spelt.2 ∙ ap (λ k. byte_bits bytes ++ replicate (5 * k - 8 * length bytes) 0) spelt.0)
