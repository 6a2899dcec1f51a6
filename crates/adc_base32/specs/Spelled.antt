-- The bytes that a base32 text spells, and the text that spells bytes, computed from their bits.
use Rattle.std.specs.Prelude.{ℕ, zero, suc, ◌+◌, ◌-◌, ◌*◌, ◌==◌, ◌&&◌, Bool, true, false, List, [], ◌∷◌, ◌++◌, length, map, take, drop, replicate, Option, Some, None, is_some, if◌then◌else◌}
use Rattle.std.specs.List.{list_all, fold}
use Rattle.adc_base32.specs.Digits.{digit_of, value_at}
use Rattle.adc_base32.specs.Bits.{byte_bits, text_bits, text_len}

-- the number that bits go on with from a number
unfoldable pub number_from : ℕ → List ℕ → ℕ
number_from high bits = fold (λ (number : ℕ) (bit : ℕ). number * 2 + bit) high bits

-- n numbers, of so many bits each
unfoldable pub numbers_from : ℕ → ℕ → List ℕ → List ℕ
numbers_from size zero bits = []
numbers_from size (suc n) bits = number_from 0 (take size bits) ∷ numbers_from size n (drop size bits)

abbrev pub is_digit : ℕ → Bool
is_digit c = is_some (value_at c)

-- a text spells n bytes: it has as many digits as they take, and the bits beyond them are zero
abbrev pub spells : ℕ → List ℕ → Bool
spells n text = length text == text_len n && list_all is_digit text && list_all (λ (bit : ℕ). bit == 0) (drop (8 * n) (text_bits text))

-- the n bytes that a text spells, if it spells so many
unfoldable pub spelled_bytes : ℕ → List ℕ → Option (List ℕ)
spelled_bytes n text = if spells n text then Some (numbers_from 8 n (text_bits text)) else None

-- the text that spells bytes: their bits, and zeros to the end of the last digit
unfoldable pub spelling : List ℕ → List ℕ
spelling bytes =
    map digit_of (numbers_from 5 (text_len (length bytes)) (byte_bits bytes ++ replicate (5 * text_len (length bytes) - 8 * length bytes) 0))
