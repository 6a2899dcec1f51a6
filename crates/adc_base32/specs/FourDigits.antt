-- A session identifier as it is read, one character after another.
use Rattle.std.specs.Prelude.{ℕ, ◌+◌, ◌*◌, ◌==◌, List, length, slice_index, Option, Some, None, option_and_then, if◌then◌else◌}
use Rattle.adc_base32.specs.Digits.{value_at}

-- the number that four characters spell, where each is a digit
unfoldable pub four_digits : ℕ → ℕ → ℕ → ℕ → Option ℕ
four_digits c d e f =
    option_and_then (λ (a : ℕ). option_and_then (λ (b : ℕ). option_and_then (λ (g : ℕ).
    option_and_then (λ (h : ℕ). Some (((a * 32 + b) * 32 + g) * 32 + h)) (value_at f)) (value_at e)) (value_at d)) (value_at c)

-- the number that a text of four characters spells
abbrev pub read_digits : List ℕ → Option ℕ
read_digits text =
    if length text == 4
    then four_digits (slice_index text 0) (slice_index text 1) (slice_index text 2) (slice_index text 3)
    else None
