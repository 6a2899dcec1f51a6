-- The filling of a message up to whole blocks of 64 bytes.
use Rattle.std.specs.Prelude.{◌≡◌, ◌⊎◌, ℕ, ◌+◌, ◌-◌, ◌*◌, ◌/◌, ◌%◌, ◌^◌, List, ◌∷◌, ◌++◌, length, replicate}
use Rattle.std.specs.Int.{w64, to_le_bytes}

-- what follows a message of n bytes: a byte 01, the fewest zeros that leave 8 bytes of a block, and the message's
-- length in bits in those, the lowest byte first
abbrev pub padding : ℕ → List ℕ
padding n = 1 ∷ replicate ((119 - n % 64) % 64) 0 ++ to_le_bytes w64 (n * 8 % 2 ^ 64)

abbrev pub with_padding : List ℕ → List ℕ
with_padding message = message ++ padding (length message)

-- how many blocks that makes
abbrev pub block_count : ℕ → ℕ
block_count n = (n + 8) / 64 + 1

-- what is left behind the whole blocks makes one block or two
abbrev pub IsTail : ℕ → Type 0
IsTail n = (n ≡ 64) ⊎ (n ≡ 128)
