-- The digits of a value are read back to it, and what is read is spelt by those digits.
use Rattle.std.proofs.Common.{◌≡◌, ◌∙◌, sym, ap, ℕ, ◌+◌, ◌*◌, ◌/◌, ◌%◌, ◌<◌, ◌∷◌, [], List, length, cond, refl, arith}
use Rattle.std.specs.Prelude.{◌==◌, ◌&&◌, Bool, true, false, Option, Some, None, is_some, option_and_then}
use Rattle.std.specs.List.{fold, list_all}
use Rattle.std.specs.Option.{unwrap_or}
use Rattle.std.proofs.lemmas.Bool.Decides.{nat_tests}
use Rattle.std.proofs.lemmas.Grind.{common_steps}
use Rattle.std.proofs.lemmas.Option.{option_and_then_some}
use Rattle.adc_base32.specs.Digits.{digit_of, value_at}
use Rattle.adc_base32.specs.Bits.{value_of}
use Rattle.adc_base32.specs.FourDigits.{four_digits, read_digits}
use Rattle.adc_base32.specs.Sids.{sid_count, sid_text, sid_at}
use Rattle.adc_base32.specs.Spelled.{is_digit}

-- a value is read from its digit
pub value_at-digit_of : (v : ℕ) → v < 32 → value_at (digit_of v) ≡ Some v
unfolding value_at digit_of
value_at-digit_of v h = grind (arith, nat_tests)

-- what is read has a digit
pub digit_of-value_at : (c v : ℕ) → value_at c ≡ Some v → (digit_of v ≡ c) × (v < 32)
unfolding value_at digit_of
digit_of-value_at c v e = grind (arith, nat_tests)

by-values : (a b d e : Option ℕ)
    → cond (is_some a && (is_some b && (is_some d && (is_some e && true)))) (Some ((((0 * 32 + unwrap_or a 0) * 32 + unwrap_or b 0) * 32 + unwrap_or d 0) * 32 + unwrap_or e 0)) None
    ≡ option_and_then (λ (v : ℕ). option_and_then (λ (w : ℕ). option_and_then (λ (x : ℕ). option_and_then (λ (y : ℕ). Some (((v * 32 + w) * 32 + x) * 32 + y)) e) d) b) a
by-values None b d e = refl
by-values (Some v) None d e = refl
by-values (Some v) (Some w) None e = refl
by-values (Some v) (Some w) (Some x) None = refl
by-values (Some v) (Some w) (Some x) (Some y) = ap Some (omega arith)

-- a text is read one character after another
pub sid_at-is : (text : List ℕ) → sid_at text ≡ read_digits text
unfolding sid_at four_digits value_of
sid_at-is [] = refl
sid_at-is (a ∷ []) = refl
sid_at-is (a ∷ b ∷ []) = refl
sid_at-is (a ∷ b ∷ d ∷ []) = refl
sid_at-is (a ∷ b ∷ d ∷ e ∷ []) = by-values (value_at a) (value_at b) (value_at d) (value_at e)
sid_at-is (a ∷ b ∷ d ∷ e ∷ f ∷ more) =
    let text : List ℕ = a ∷ b ∷ d ∷ e ∷ f ∷ more in
    let long : (length text == 4) ≡ false = grind (arith, nat_tests) in
    ap (λ t. cond (t && list_all is_digit text) (Some (fold (λ number digit. number * 32 + value_of digit) 0 text)) None) long
    ∙ sym (ap (λ t. cond t (four_digits a b d e) None) long)

-- four values are read from their digits
four_digits-text : (a b d e : ℕ) → a < 32 → b < 32 → d < 32 → e < 32
    → four_digits (digit_of a) (digit_of b) (digit_of d) (digit_of e) ≡ Some (((a * 32 + b) * 32 + d) * 32 + e)
unfolding four_digits
four_digits-text a b d e p q r s =
    rw (value_at-digit_of a p, value_at-digit_of b q, value_at-digit_of d r, value_at-digit_of e s)

-- the text of a number that four values make is their digits
text-values : (a b d e : ℕ) → a < 32 → b < 32 → d < 32 → e < 32
    → digit_of a ∷ digit_of b ∷ digit_of d ∷ digit_of e ∷ [] ≡ sid_text (((a * 32 + b) * 32 + d) * 32 + e)
text-values a b d e p q r s =
    let n : ℕ = ((a * 32 + b) * 32 + d) * 32 + e in
    let first : n / 32768 ≡ a = omega arith in
    let second : n / 1024 % 32 ≡ b = omega arith in
    let third : n / 32 % 32 ≡ d = omega arith in
    let fourth : n % 32 ≡ e = omega arith in
    sym (rw (first, second, third, fourth))

-- what four characters are read as has them for its text
text-four_digits : (a b d e n : ℕ) → four_digits a b d e ≡ Some n → a ∷ b ∷ d ∷ e ∷ [] ≡ sid_text n
unfolding four_digits
text-four_digits a b d e n h =
    option_and_then_some _ (value_at a) n h (λ v va hv.
    option_and_then_some _ (value_at b) n hv (λ w wb hw.
    option_and_then_some _ (value_at d) n hw (λ x xd hx.
    option_and_then_some _ (value_at e) n hx (λ y ye hy.
    let p = digit_of-value_at a v va in
    let q = digit_of-value_at b w wb in
    let r = digit_of-value_at d x xd in
    let s = digit_of-value_at e y ye in
    let is : ((v * 32 + w) * 32 + x) * 32 + y ≡ n = cc in
    rw (← p.0, ← q.0, ← r.0, ← s.0) (text-values v w x y p.1 q.1 r.1 s.1 ∙ ap sid_text is)))))

-- a number is read from its text
pub sid_at-sid_text : (n : ℕ) → n < sid_count → sid_at (sid_text n) ≡ Some n
sid_at-sid_text n h =
    let a : n / 32768 < 32 = omega arith in
    let b : n / 1024 % 32 < 32 = omega arith in
    let g : n / 32 % 32 < 32 = omega arith in
    let d : n % 32 < 32 = omega arith in
    sid_at-is (sid_text n) ∙ four_digits-text (n / 32768) (n / 1024 % 32) (n / 32 % 32) (n % 32) a b g d ∙ ap Some (omega arith)

sid_text-read : (text : List ℕ) (n : ℕ) → read_digits text ≡ Some n → text ≡ sid_text n
sid_text-read (a ∷ b ∷ c ∷ d ∷ []) n e = text-four_digits a b c d n e
sid_text-read [] n e = cc
sid_text-read (a ∷ []) n e = cc
sid_text-read (a ∷ b ∷ []) n e = cc
sid_text-read (a ∷ b ∷ c ∷ []) n e = cc
sid_text-read (a ∷ b ∷ c ∷ d ∷ f ∷ more) n e = grind (arith, nat_tests, common_steps)

-- what is read has its characters for its text
pub sid_text-sid_at : (text : List ℕ) (n : ℕ) → sid_at text ≡ Some n → text ≡ sid_text n
sid_text-sid_at text n e = sid_text-read text n (sym (sid_at-is text) ∙ e)
