-- The amount that a user shares (ADC 1.0, "INF", fields SS and SF): a number in decimal digits.
use Rattle.std.specs.Prelude.{ℕ, ◌&&◌, ◌^◌, not, Bool, false, nat_le, nat_lt, List, [], ◌∷◌, length, Option, Some, None, is_some, if◌then◌else◌}
use Rattle.std.specs.Str.{all_ascii_digits}
use Rattle.std.specs.Str.Parse.{digits_value}

-- 1 to 20 digits
abbrev pub is_short_number : List ℕ → Bool
is_short_number digits = nat_le 1 (length digits) && nat_le (length digits) 20 && all_ascii_digits digits

-- the number that a value spells, where it has 1 to 20 digits and the number is below 2 to the 64th
unfoldable pub number_at : List ℕ → Option ℕ
number_at value = if is_short_number value && nat_lt (digits_value 10 value) (2 ^ 64) then Some (digits_value 10 value) else None

-- the value of a field that is to be a number is none; it need not be there
abbrev pub is_bad_number : List ℕ → Bool
is_bad_number [] = false
is_bad_number (b ∷ more) = not (is_some (number_at (b ∷ more)))
