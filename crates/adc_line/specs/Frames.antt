-- The length of a line at most, and the byte that ends it (ADC 1.0, "Message syntax").
use Rattle.std.specs.Prelude.{◌≡◌, ℕ, Bool, false, List, ◌==◌}
use Rattle.std.specs.List.{All}

-- a line feed
abbrev pub lf : ℕ
lf = 10

-- the bytes that a line may have, without its line feed
abbrev pub max_line : ℕ
max_line = 65_536

abbrev pub is_lf : ℕ → Bool
is_lf b = b == lf

abbrev pub HasNoLf : List ℕ → Type 0
HasNoLf bytes = All (λ b. is_lf b ≡ false) bytes
