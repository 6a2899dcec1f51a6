-- Tiger, by Ross Anderson and Eli Biham, as a function on lists: `tables` is a list of 1,024 words.
use Rattle.std.specs.Prelude.{ℕ, zero, suc, ◌*◌, List, ◌++◌, length, take, drop, slice_index, slice_set, bit_xor}
use Rattle.std.specs.Int.{w64, to_le_bytes}
use Rattle.session_hash.specs.declared.tiger.Registers.{Registers}
use Rattle.session_hash.specs.Words.{add64, sub64, mul64, not_up, not_down, byte_of}
use Rattle.session_hash.specs.Tables.{entry, words_from}
use Rattle.session_hash.specs.Padding.{with_padding, block_count}

-- the four words that the even bytes of a register pick, joined
unfoldable pub even_entries : List ℕ → ℕ → ℕ
even_entries tables c =
    bit_xor (bit_xor (bit_xor (entry tables 0 (byte_of c 0)) (entry tables 1 (byte_of c 2))) (entry tables 2 (byte_of c 4))) (entry tables 3 (byte_of c 6))

-- and those that the odd bytes pick
unfoldable pub odd_entries : List ℕ → ℕ → ℕ
odd_entries tables c =
    bit_xor (bit_xor (bit_xor (entry tables 3 (byte_of c 1)) (entry tables 2 (byte_of c 3))) (entry tables 1 (byte_of c 5))) (entry tables 0 (byte_of c 7))

-- one round with a word and a factor, after which the registers are turned: the next round takes b, c, a as a, b, c
unfoldable pub round_of : List ℕ → Registers → ℕ → ℕ → Registers
round_of tables r word factor = record {
  a = mul64 (add64 r.b (odd_entries tables (bit_xor r.c word))) factor;
  b = bit_xor r.c word;
  c = sub64 r.a (even_entries tables (bit_xor r.c word));
}

-- a pass is eight rounds, with the eight words of a block
unfoldable pub pass : List ℕ → Registers → List ℕ → ℕ → Registers
pass tables r x factor =
    round_of tables (round_of tables (round_of tables (round_of tables (round_of tables (round_of tables (round_of tables (round_of tables r
    (slice_index x 0) factor) (slice_index x 1) factor) (slice_index x 2) factor) (slice_index x 3) factor)
    (slice_index x 4) factor) (slice_index x 5) factor) (slice_index x 6) factor) (slice_index x 7) factor

-- The key schedule: each word of the block takes in another, in these five ways.
unfoldable pub with_xor : ℕ → ℕ → List ℕ → List ℕ
with_xor i j x = slice_set x i (bit_xor (slice_index x i) (slice_index x j))

unfoldable pub with_sum : ℕ → ℕ → List ℕ → List ℕ
with_sum i j x = slice_set x i (add64 (slice_index x i) (slice_index x j))

unfoldable pub less_key : ℕ → ℕ → ℕ → List ℕ → List ℕ
less_key i j key x = slice_set x i (sub64 (slice_index x i) (bit_xor (slice_index x j) key))

unfoldable pub less_up : ℕ → ℕ → ℕ → List ℕ → List ℕ
less_up i j k x = slice_set x i (sub64 (slice_index x i) (bit_xor (slice_index x j) (not_up (slice_index x k) 19)))

unfoldable pub less_down : ℕ → ℕ → ℕ → List ℕ → List ℕ
less_down i j k x = slice_set x i (sub64 (slice_index x i) (bit_xor (slice_index x j) (not_down (slice_index x k) 23)))

-- The two halves of the key schedule, the first assignment innermost.
unfoldable pub first_half : List ℕ → List ℕ
first_half x =
    with_xor 7 6 (less_down 6 5 4 (with_sum 5 4 (with_xor 4 3 (less_up 3 2 1 (with_sum 2 1 (with_xor 1 0 (less_key 0 7 0xA5A5A5A5A5A5A5A5 x)))))))

unfoldable pub second_half : List ℕ → List ℕ
second_half x =
    less_key 7 6 0x0123456789ABCDEF (with_sum 6 5 (with_xor 5 4 (less_down 4 3 2 (with_sum 3 2 (with_xor 2 1 (less_up 1 0 7 (with_sum 0 7 x)))))))

abbrev pub key_schedule : List ℕ → List ℕ
key_schedule x = second_half (first_half x)

-- the three passes over a block, with the key schedule between them
unfoldable pub passes : List ℕ → Registers → List ℕ → Registers
passes tables r x =
    pass tables (pass tables (pass tables r x 5) (key_schedule x) 7) (key_schedule (key_schedule x)) 9

-- the registers as they were are taken into what the passes made of them
unfoldable pub fed_forward : Registers → Registers → Registers
fed_forward before r = record { a = bit_xor r.a before.a; b = sub64 r.b before.b; c = add64 r.c before.c }

-- one block
unfoldable pub compress : List ℕ → Registers → List ℕ → Registers
compress tables r x = fed_forward r (passes tables r x)

abbrev pub start : Registers
start = record { a = 0x0123456789ABCDEF; b = 0xFEDCBA9876543210; c = 0xF096A5B4C3B2E187 }

-- block k of some bytes, as eight words
abbrev pub block : List ℕ → ℕ → List ℕ
block bytes k = words_from 8 (drop (64 * k) bytes)

-- two blocks
abbrev pub compressed_twice : List ℕ → Registers → List ℕ → Registers
compressed_twice tables r bytes = compress tables (compress tables r (words_from 8 (take 64 bytes))) (words_from 8 (drop 64 bytes))

-- the registers after the first n blocks
unfoldable pub registers_after : List ℕ → List ℕ → ℕ → Registers
registers_after tables bytes zero = start
registers_after tables bytes (suc n) = compress tables (registers_after tables bytes n) (block bytes n)

-- the registers' bytes, the lowest of each first
unfoldable pub bytes_of : Registers → List ℕ
bytes_of r = to_le_bytes w64 r.a ++ to_le_bytes w64 r.b ++ to_le_bytes w64 r.c

-- the digest of a message
unfoldable pub tiger : List ℕ → List ℕ → List ℕ
tiger tables message = bytes_of (registers_after tables (with_padding message) (block_count (length message)))
