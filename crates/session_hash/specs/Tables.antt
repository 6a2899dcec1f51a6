-- The four tables of Tiger, 256 words each, as one list of 1,024 words.
use Rattle.std.specs.Prelude.{ℕ, zero, suc, ◌+◌, ◌*◌, List, [], ◌∷◌, take, drop, slice_index}
use Rattle.std.specs.Int.{w64, from_le_bytes}

-- the word of table t, from 0 on, for a byte
unfoldable pub entry : List ℕ → ℕ → ℕ → ℕ
entry tables t byte = slice_index tables (256 * t + byte)

-- so many words from bytes, the lowest byte of each first
unfoldable pub words_from : ℕ → List ℕ → List ℕ
words_from zero bytes = []
words_from (suc n) bytes = from_le_bytes w64 (take 8 bytes) ∷ words_from n (drop 8 bytes)
