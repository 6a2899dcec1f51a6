-- The lines that wait for one connection alone.
use Rattle.std.specs.Prelude.{ℕ, Bool, true, false, Option, Some, None}
use Rattle.outboxes.specs.Backlogs.{Backlog, empty_backlog}
use Rattle.shared_log.specs.declared.own_lines.OwnLines.TheInside.{Inside}

-- what waits, and whether lines can be given without memory
pub record OwnQueue : Type 0 where
  pub backlog : Backlog
  pub is_kept : Bool

abbrev pub nothing_own : ℕ → ℕ → OwnQueue
nothing_own cap bytes = record { backlog = empty_backlog cap bytes; is_kept = false }

abbrev pub own_with : Backlog → OwnQueue → OwnQueue
own_with backlog own = record own { backlog = backlog }

abbrev own_of : Option Backlog → ℕ → ℕ → OwnQueue
own_of None cap bytes = nothing_own cap bytes
own_of (Some backlog) cap bytes = record { backlog = backlog; is_kept = true }

-- as it is kept
abbrev pub own_in : Inside → OwnQueue
own_in o = own_of o.outbox o.cap o.bytes
