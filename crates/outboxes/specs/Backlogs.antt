-- The lines that wait for a connection, and what becomes of them.
use Rattle.std.specs.Prelude.{ℕ, ◌+◌, ◌&&◌, nat_le, Bool, true, false, List, [], ◌++◌, length, if◌then◌else◌}
use Rattle.std.specs.List.{sum_by}

-- the lines that wait, oldest first, each with its line feed; whether the connection lags; and the most
-- lines and bytes that may wait
pub record Backlog : Type 0 where
  pub lines : List (List ℕ)
  pub lags : Bool
  pub cap : ℕ
  pub bytes : ℕ

-- nothing waits yet
abbrev pub empty_backlog : ℕ → ℕ → Backlog
empty_backlog cap bytes = record { lines = []; lags = false; cap = cap; bytes = bytes }

abbrev pub with_lines : Backlog → List (List ℕ) → Backlog
with_lines o lines = record { lines = lines; lags = o.lags; cap = o.cap; bytes = o.bytes }

abbrev pub marked_lagging : Backlog → Backlog
marked_lagging o = record { lines = o.lines; lags = true; cap = o.cap; bytes = o.bytes }

-- how many bytes the lines have together
abbrev pub size_of : List (List ℕ) → ℕ
size_of lines = sum_by length lines

-- with the share, no more lines and no more bytes wait than may
abbrev pub fits : Backlog → List (List ℕ) → Bool
fits o share = nat_le (length o.lines + length share) o.cap && nat_le (size_of o.lines + size_of share) o.bytes

-- a share goes in whole or not at all, and nothing goes in from the first on that does not fit
unfoldable pub backlog_after : Backlog → List (List ℕ) → Backlog
backlog_after o share =
    if o.lags then o
    else if fits o share then with_lines o (o.lines ++ share)
    else marked_lagging o
