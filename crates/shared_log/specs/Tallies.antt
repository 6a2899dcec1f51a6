-- How much waits.
use Rattle.std.specs.Prelude.{◌≡◌, ℕ, ◌+◌, ◌&&◌, nat_le, length, Option, Some, None, if◌then◌else◌}
use Rattle.outboxes.specs.Backlogs.{Backlog, size_of}
use Rattle.shared_log.specs.declared.tally.Tally.{Tally}

-- the tally is of this backlog
pub record IsTally (b : Backlog) (t : Tally) : Type 0 where
  pub lines : t.lines ≡ length b.lines
  pub bytes : t.bytes ≡ size_of b.lines
  pub lags : t.lags ≡ b.lags
  pub cap : t.cap ≡ b.cap
  pub limit : t.limit ≡ b.bytes

-- with a share of so many lines and bytes, where they fit
abbrev pub grown : Tally → ℕ → ℕ → Option Tally
grown t lines size =
    if nat_le (t.lines + lines) t.cap && nat_le (t.bytes + size) t.limit then Some (record t { lines = t.lines + lines; bytes = t.bytes + size }) else None
