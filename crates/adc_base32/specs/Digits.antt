-- The digits of base32 (RFC 4648, section 6, as ADC takes it over: upper case, no padding).
use Rattle.std.specs.Prelude.{ℕ, ◌+◌, ◌-◌, ◌&&◌, nat_le, nat_lt, Option, Some, None, if◌then◌else◌}

-- the character of a value below 32: 0 to 25 are A to Z, 26 to 31 are 2 to 7
unfoldable pub digit_of : ℕ → ℕ
digit_of value = if nat_lt value 26 then value + 65 else value + 24

-- the value of a character, where it is a digit
unfoldable pub value_at : ℕ → Option ℕ
value_at c =
    if nat_le 65 c && nat_le c 90 then Some (c - 65)
    else if nat_le 50 c && nat_le c 55 then Some (c - 24)
    else None
