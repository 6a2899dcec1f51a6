-- How often the task cries that wakes those for whom everybody was woken.
use Rattle.std.specs.Prelude.{ℕ, ◌+◌, ◌%◌, ◌^◌}

-- the number after this one, as far as 64 bits count
abbrev pub once_more : ℕ → ℕ
once_more n = (n + 1) % 2 ^ 64
