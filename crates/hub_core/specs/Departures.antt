-- A hub after a connection left, and after a take.
use Rattle.std.specs.Prelude.{ℕ, ◌==◌, ◌&&◌, not, Bool, List, [], ◌∷◌, filter, map, if◌then◌else◌}
use Rattle.outboxes.specs.Quits.{quit_line}
use Rattle.user_table.specs.Tables.{without_sid}
use Rattle.hub_core.specs.declared.seat.Seat.{Seat}
use Rattle.hub_core.specs.CoreState.{CoreState}
use Rattle.hub_core.specs.Phases.{stage_in}
use Rattle.hub_core.specs.Seats.{phase_in, sid_in}
use Rattle.hub_core.specs.Backlogs.{at_backlog, backlog_after_take, backlog_in, backlogs_but, ends_by, given_each, is_here}
use Rattle.hub_rules.specs.Effects.{is_over, is_present}

-- ---- quits

-- a user who is present is told that another left who was
abbrev pub told_of : Bool → ℕ → Seat → List (List ℕ)
told_of was_here sid seat = if was_here && is_here seat then quit_line sid ∷ [] else []

abbrev pub others_of : ℕ → List Seat → List Seat
others_of c seats = filter (λ (seat : Seat). not (seat.number == c)) seats

-- connection c left
abbrev pub left_core : ℕ → CoreState → CoreState
left_core c core = record core {
  seats = others_of c core.seats;
  backlogs = given_each (map (told_of (is_present (stage_in (phase_in c core.seats))) (sid_in c core.seats)) (others_of c core.seats)) (backlogs_but c core.seats core.backlogs);
  users = without_sid (sid_in c core.seats) core.users;
}

-- ---- takes

-- so many lines are taken of what waits for connection c
abbrev pub core_after_take : ℕ → ℕ → CoreState → CoreState
core_after_take c count core = record core { backlogs = at_backlog c (backlog_after_take count) core.seats core.backlogs }

abbrev pub lines_in : ℕ → CoreState → List (List ℕ)
lines_in c core = (backlog_in c core.seats core.backlogs).lines

-- a take of so many lines leaves nothing, and nothing more will come
abbrev pub has_ended : ℕ → ℕ → CoreState → Bool
has_ended c count core = ends_by (is_over (stage_in (phase_in c core.seats))) count (backlog_in c core.seats core.backlogs)
