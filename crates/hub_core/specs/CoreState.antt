-- A hub as contracts see it.
use Rattle.std.specs.Prelude.{ℕ, List}
use Rattle.outboxes.specs.Backlogs.{Backlog}
use Rattle.operator_acts.specs.declared.ban.Ban.{Ban}
use Rattle.user_table.specs.Listed.{Listed}
use Rattle.hub_core.specs.declared.seat.Seat.{Seat}
use Rattle.hub_core.specs.declared.share.Touched.{Touched}
use Rattle.hub_rules.specs.Configured.{Configured}

pub record CoreState : Type 0 where
  pub setup : Configured
  -- how many joins were accepted
  pub joins : ℕ
  -- the session identifier that was given last
  pub last : ℕ
  -- what is kept of the connections that are open, in the order of their joins
  pub seats : List Seat
  -- what waits for each of them
  pub backlogs : List Backlog
  -- the users who are present, in order of entry
  pub users : List Listed
  pub bans : List (List ℕ × Ban)
  pub topic : List ℕ
  -- whom the last call concerned: a hint, which no history determines
  pub touched : Touched

-- the same hub with this hint
abbrev pub noted : Touched → CoreState → CoreState
noted touched core = record core { touched = touched }
