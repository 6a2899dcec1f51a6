-- The faults of a text that spells no bytes, and the text that does.
use Rattle.std.specs.Prelude.{◌≡◌, ◌≢◌, ℕ, ◌*◌, ◌-◌, List, length, drop, replicate}
use Rattle.adc_base32.specs.Bits.{AreDigits, IsBase32, text_bits, text_len}
use Rattle.adc_base32.specs.declared.fault.B32.{B32}
use Rattle.adc_base32.specs.declared.fault.B32.TheVariants as faults

-- the fault of a text that was to spell n bytes: the first of its length, a character, its low bits
abbrev pub IsDecodeFault : List ℕ → ℕ → B32 → Type 0
IsDecodeFault text n faults.Memory = Unit {0}
IsDecodeFault text n faults.Length = length text ≢ text_len n
IsDecodeFault text n faults.Digit = (length text ≡ text_len n) × (AreDigits text → ⊥)
IsDecodeFault text n faults.LowBits =
    (length text ≡ text_len n) × AreDigits text × ((bytes : List ℕ) → length bytes ≡ n → IsBase32 text bytes → ⊥)

-- a text of as many digits as n bytes take, whose bits beyond those of the bytes are zero
abbrev pub HasBytes : ℕ → List ℕ → Type 0
HasBytes n text =
    (length text ≡ text_len n) × AreDigits text × (drop (8 * n) (text_bits text) ≡ replicate (5 * length text - 8 * n) 0)
