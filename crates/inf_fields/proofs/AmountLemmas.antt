-- A value of digits alone spells the number that is parsed.
use Rattle.std.proofs.Common.{◌≡◌, ℕ, ◌<◌, ◌^◌, ◌&&◌, true, false, List, [], ◌∷◌, length, refl, sym, ap, ap₂, ◌∙◌, inl, inr, arith}
use Rattle.std.specs.Prelude.{Some, None, Result, Ok, Err, nat_le, nat_lt, OkIff}
use Rattle.std.specs.Char.{is_ascii_digit}
use Rattle.std.specs.List.{list_all}
use Rattle.std.specs.Result.{result_ok}
use Rattle.std.specs.Str.{all_ascii_digits}
use Rattle.std.specs.Str.Parse.{digits_value, ParsesUnsigned}
use Rattle.std.proofs.lemmas.Bool.{cases_Bool, cond-true, cond-false, and_parts, leb-true, ltb-true, lt-ltb}
use Rattle.std.proofs.lemmas.Str.Parse.{IsNumeralModel, numerals_by_value, tells_all_ascii_digits, parse_digits}
use Rattle.inf_fields.specs.Amounts.{is_short_number, number_at}

pub list_all-digits : (bytes : List ℕ) → list_all is_ascii_digit bytes ≡ all_ascii_digits bytes
list_all-digits [] = refl
list_all-digits (b ∷ bytes) = ap (λ t. is_ascii_digit b && t) (list_all-digits bytes)

number-parsed : {E : Type 0} (value : List ℕ) (r : Result ℕ E) → is_short_number value ≡ true → 0 < length value
    → OkIff r ((0 < length value) × (digits_value 10 value < 2 ^ 64)) (digits_value 10 value) → result_ok r ≡ number_at value
unfolding number_at
number-parsed value (Ok n) short some h =
    ap Some h.1 ∙ sym (cond-true _ (Some (digits_value 10 value)) None (ap₂ ◌&&◌ short (lt-ltb (digits_value 10 value) (2 ^ 64) h.0.1)))
number-parsed value (Err e) short some h =
    elim (cases_Bool (nat_lt (digits_value 10 value) (2 ^ 64))) [
      | inl small ↦ absurd (h (some, ltb-true (digits_value 10 value) (2 ^ 64) small))
      | inr large ↦ sym (cond-false _ (Some (digits_value 10 value)) None (ap₂ ◌&&◌ short large))
    ]

pub number_at-parsed : {E : Type 0} (value : List ℕ) (r : Result ℕ E) → is_short_number value ≡ true → ParsesUnsigned 64 10 value r → result_ok r ≡ number_at value
number_at-parsed value r short parses =
    let lengths = and_parts (nat_le 1 (length value) && nat_le (length value) 20) (all_ascii_digits value) short in
    let first = and_parts (nat_le 1 (length value)) (nat_le (length value) 20) lengths.0 in
    let some : 0 < length value = omega (arith, leb-true 1 (length value) first.0) in
    let own : IsNumeralModel (λ ds. all_ascii_digits ds ≡ true) (digits_value 10) = numerals_by_value (λ ds. all_ascii_digits ds ≡ true) tells_all_ascii_digits in
    number-parsed value r short some (parse_digits own 64 value r parses lengths.1)

pub number_at-other : (value : List ℕ) → is_short_number value ≡ false → None ≡ number_at value
unfolding number_at
number_at-other value long = sym (cond-false _ _ _ (ap (λ t. t && nat_lt (digits_value 10 value) (2 ^ 64)) long))
