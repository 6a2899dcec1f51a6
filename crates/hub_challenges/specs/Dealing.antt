-- The challenges of connections, in the order of their joins.
use Rattle.std.specs.Prelude.{ℕ, zero, suc, List}
use Rattle.rand_core.specs.Steps.{fill_via_u32}
use Rattle.rand_chacha.specs.ChaCha.{ChaCha, next_word}

-- a challenge and the stream behind it: 24 bytes are the next six words of the ChaCha20 stream, each with its lowest byte first
abbrev pub dealt : ChaCha → List ℕ × ChaCha
dealt stream = fill_via_u32 (next_word 10) 24 stream

-- the stream behind so many challenges
abbrev pub after_dealt : ℕ → ChaCha → ChaCha
after_dealt zero stream = stream
after_dealt (suc n) stream = after_dealt n (dealt stream).1
