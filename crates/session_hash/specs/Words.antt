-- Words of 64 bits, on which Tiger computes: sums, differences and products are modulo 2 to the 64th.
use Rattle.std.specs.Prelude.{ℕ, ◌+◌, ◌-◌, ◌*◌, ◌/◌, ◌%◌, ◌^◌}
use Rattle.std.specs.Int.{w64, bit_not}

unfoldable pub add64 : ℕ → ℕ → ℕ
add64 x y = (x + y) % 2 ^ 64

unfoldable pub sub64 : ℕ → ℕ → ℕ
sub64 x y = (x + (2 ^ 64 - y)) % 2 ^ 64

unfoldable pub mul64 : ℕ → ℕ → ℕ
mul64 x y = x * y % 2 ^ 64

-- all bits flipped, and then moved up; zeros come in
unfoldable pub not_up : ℕ → ℕ → ℕ
not_up x bits = bit_not w64 x * 2 ^ bits % 2 ^ 64

-- all bits flipped, and then moved down; zeros come in
unfoldable pub not_down : ℕ → ℕ → ℕ
not_down x bits = bit_not w64 x / 2 ^ bits

-- byte k of a word, 0 the lowest
unfoldable pub byte_of : ℕ → ℕ → ℕ
byte_of x k = x / 2 ^ (8 * k) % 256
