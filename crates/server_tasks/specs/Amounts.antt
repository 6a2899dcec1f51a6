-- Numbers of lines and of their bytes, as far as 64 bits count.
use Rattle.std.specs.Prelude.{ℕ, ◌+◌, ◌-◌, ◌^◌, min, max, Bool, ◌||◌, nat_lt}
use Rattle.server_tasks.specs.declared.amount.Amount.{Amount}

-- the number, or the largest of 64 bits
abbrev pub capped : ℕ → ℕ
capped n = min n (2 ^ 64 - 1)

abbrev pub no_line : Amount
no_line = record { lines = 0; bytes = 0 }

-- one line of so many bytes
abbrev pub one_line : ℕ → Amount
one_line count = record { lines = 1; bytes = count }

abbrev pub both : Amount → Amount → Amount
both a b = record { lines = capped (a.lines + b.lines); bytes = capped (a.bytes + b.bytes) }

-- what is left of the first without the second, and none where that is more
abbrev pub without : Amount → Amount → Amount
without a b = record { lines = a.lines - b.lines; bytes = a.bytes - b.bytes }

-- the larger number of each
abbrev pub larger : Amount → Amount → Amount
larger a b = record { lines = max a.lines b.lines; bytes = max a.bytes b.bytes }

-- either number is larger than that of the bound
abbrev pub is_beyond : Amount → Amount → Bool
is_beyond a bound = nat_lt bound.lines a.lines || nat_lt bound.bytes a.bytes
