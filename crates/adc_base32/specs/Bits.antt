-- Base32 text and the bytes that it spells, bit by bit (RFC 4648, section 6; ADC 1.0, "Message syntax").
use Rattle.std.specs.Prelude.{◌≡◌, ℕ, zero, suc, ◌+◌, ◌*◌, ◌-◌, ◌/◌, ◌%◌, ◌^◌, ◌<◌, List, [], ◌∷◌, ◌++◌, length, replicate, IsSome}
use Rattle.std.specs.List.{All, flat_map}
use Rattle.std.specs.Option.{unwrap_or}
use Rattle.adc_base32.specs.Digits.{value_at}

-- the lowest bits of a number, so many as the first argument says, the most significant first
unfoldable pub bits : ℕ → ℕ → List ℕ
bits zero n = []
bits (suc k) n = n / 2 ^ k % 2 ∷ bits k n

-- the bits of bytes
abbrev pub byte_bits : List ℕ → List ℕ
byte_bits bytes = flat_map (bits 8) bytes

-- the value of a digit
unfoldable pub value_of : ℕ → ℕ
value_of c = unwrap_or (value_at c) 0

-- the bits of digits
abbrev pub text_bits : List ℕ → List ℕ
text_bits text = flat_map (λ (c : ℕ). bits 5 (value_of c)) text

-- each character is a digit
abbrev pub AreDigits : List ℕ → Type 0
AreDigits text = All (λ c. IsSome (value_at c)) text

-- how many digits spell n bytes
abbrev pub text_len : ℕ → ℕ
text_len n = (8 * n + 4) / 5

-- the text spells the bytes: so many digits as it takes, whose bits are those of the bytes and then zeros
abbrev pub IsBase32 : List ℕ → List ℕ → Type 0
IsBase32 text bytes =
    (length text ≡ text_len (length bytes))
    × AreDigits text
    × (text_bits text ≡ byte_bits bytes ++ replicate (5 * length text - 8 * length bytes) 0)

abbrev pub AreBytes : List ℕ → Type 0
AreBytes bytes = All (λ b. b < 256) bytes

-- a text has one list of so many bytes
abbrev pub HasOneReading : Type 0
HasOneReading =
    (text bytes other : List ℕ) → length other ≡ length bytes → AreBytes bytes → AreBytes other → IsBase32 text bytes → IsBase32 text other → other ≡ bytes
