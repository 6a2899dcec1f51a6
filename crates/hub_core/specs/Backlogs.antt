-- What waits for the connections: a backlog for each, which stands at the place of its seat.
use Rattle.std.specs.Prelude.{◌≡◌, ℕ, ◌==◌, ◌&&◌, ◌||◌, nat_le, Bool, List, [], ◌∷◌, drop, length, map, if◌then◌else◌}
use Rattle.outboxes.specs.Backlogs.{Backlog, empty_backlog, backlog_after, with_lines}
use Rattle.hub_core.specs.declared.seat.Seat.{Seat}
use Rattle.hub_core.specs.Phases.{stage_in}
use Rattle.hub_rules.specs.Effects.{is_present}
use Rattle.hub_rules.specs.Shares.{ConnState, max_bytes, max_lines, waiting}
use Rattle.shared_log.specs.Tables.{Row, Table}

-- what waits for a connection of which this is known
abbrev pub backlog_of : ConnState → Backlog
backlog_of a = record { lines = waiting a; lags = a.lags; cap = max_lines; bytes = max_bytes }

-- nothing waits for a connection that has just joined
abbrev pub no_backlog : Backlog
no_backlog = empty_backlog max_lines max_bytes

-- ---- shares

-- where a connection hears nothing, the same waits as before
abbrev pub given_backlog : List (List ℕ) → Backlog → Backlog
given_backlog [] backlog = backlog
given_backlog (line ∷ lines) backlog = backlog_after backlog (line ∷ lines)

-- each connection is given its share
unfoldable pub given_each : List (List (List ℕ)) → List Backlog → List Backlog
given_each [] backlogs = backlogs
given_each (share ∷ shares) [] = []
given_each (share ∷ shares) (backlog ∷ backlogs) = given_backlog share backlog ∷ given_each shares backlogs

-- ---- one connection

-- what waits for connection c
unfoldable pub backlog_in : ℕ → List Seat → List Backlog → Backlog
backlog_in c [] backlogs = no_backlog
backlog_in c (seat ∷ seats) [] = no_backlog
backlog_in c (seat ∷ seats) (backlog ∷ backlogs) = if seat.number == c then backlog else backlog_in c seats backlogs

-- what waits for connection c changes
unfoldable pub at_backlog : ℕ → (Backlog → Backlog) → List Seat → List Backlog → List Backlog
at_backlog c change [] backlogs = backlogs
at_backlog c change (seat ∷ seats) [] = []
at_backlog c change (seat ∷ seats) (backlog ∷ backlogs) =
    if seat.number == c then change backlog ∷ backlogs else backlog ∷ at_backlog c change seats backlogs

-- what waits for the others
unfoldable pub backlogs_but : ℕ → List Seat → List Backlog → List Backlog
backlogs_but c [] backlogs = backlogs
backlogs_but c (seat ∷ seats) [] = []
backlogs_but c (seat ∷ seats) (backlog ∷ backlogs) = if seat.number == c then backlogs else backlog ∷ backlogs_but c seats backlogs

-- without the first lines
abbrev pub backlog_after_take : ℕ → Backlog → Backlog
backlog_after_take count backlog = with_lines backlog (drop count backlog.lines)

-- a take of so many lines leaves nothing, and nothing more will come
abbrev pub ends_by : Bool → ℕ → Backlog → Bool
ends_by is_over count backlog = nat_le (length backlog.lines) count && (is_over || backlog.lags)

-- ---- who is present

abbrev pub is_here : Seat → Bool
is_here seat = is_present (stage_in seat.phase)

abbrev pub here_in : List Seat → List Bool
here_in seats = map is_here seats

-- ---- as the hub keeps it

abbrev pub backlogs_of : List Row → List Backlog
backlogs_of rows = map (λ (row : Row). row.backlog) rows

abbrev pub members_of : List Row → List Bool
members_of rows = map (λ (row : Row). row.is_member) rows

-- a row for each seat, whose members are those who are present
pub record AreBeside (table : Table) (seats : List Seat) : Type 0 where
  pub members : members_of table.rows ≡ here_in seats
  pub cap : table.cap ≡ max_lines
  pub bytes : table.bytes ≡ max_bytes
