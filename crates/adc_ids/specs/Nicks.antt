-- Nicks (ADC 1.0, "Message syntax" and the INF field NI): the code points of the text.
use Rattle.std.specs.Prelude.{ℕ, ◌<◌, ◌≤◌, ◌&&◌, nat_le, nat_lt, Bool, List, length}
use Rattle.std.specs.List.{All, list_all}

-- 1 to 64 code points, each above 32
abbrev pub IsNick : List ℕ → Type 0
IsNick points = (1 ≤ length points) × (length points ≤ 64) × All (λ point. 32 < point) points

-- the same as a test
unfoldable pub is_nick : List ℕ → Bool
is_nick points = nat_le 1 (length points) && nat_le (length points) 64 && list_all (nat_lt 32) points
