-- Session identifiers (ADC 1.0, "Client identification"): numbers below 2^20, as four base32 digits.
use Rattle.std.specs.Prelude.{ℕ, ◌+◌, ◌*◌, ◌/◌, ◌%◌, ◌==◌, ◌&&◌, List, [], ◌∷◌, length, Option, Some, None, if◌then◌else◌}
use Rattle.std.specs.List.{fold, list_all}
use Rattle.adc_base32.specs.Bits.{value_of}
use Rattle.adc_base32.specs.Digits.{digit_of}
use Rattle.adc_base32.specs.Spelled.{is_digit}

-- how many identifiers there are
abbrev pub sid_count : ℕ
sid_count = 1_048_576

-- the four digits of a number, the most significant first
abbrev pub sid_text : ℕ → List ℕ
sid_text n = digit_of (n / 32768) ∷ digit_of (n / 1024 % 32) ∷ digit_of (n / 32 % 32) ∷ digit_of (n % 32) ∷ []

-- the number that a text spells, where it has four characters and each is a digit
unfoldable pub sid_at : List ℕ → Option ℕ
sid_at text =
    if length text == 4 && list_all is_digit text
    then Some (fold (λ number digit. number * 32 + value_of digit) 0 text)
    else None
