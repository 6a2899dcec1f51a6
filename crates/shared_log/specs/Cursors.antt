-- What is kept of a connection, and what it stands for.
use Rattle.std.specs.Prelude.{ℕ, ◌-◌, ◌≤◌, ◌==◌, ◌&&◌, Bool, true, List, drop, get_or, is_some, length, map, Option, Some, None}
use Rattle.std.specs.List.{All}
use Rattle.outboxes.specs.Backlogs.{Backlog, backlog_after, with_lines}
use Rattle.shared_log.specs.declared.cursor.Cursor.{Cursor}
use Rattle.shared_log.specs.declared.entry.LogEntry.{LogEntry}
use Rattle.shared_log.specs.Entries.{after_all}
use Rattle.shared_log.specs.OwnLines.{nothing_own, own_with}
use Rattle.shared_log.specs.Tables.{Row}

-- lines of its own wait first, and then the entries of the log from its place on
abbrev pub owed : List LogEntry → Backlog → Option ℕ → Backlog
owed log own None = own
owed log own (Some tail) = after_all own (drop tail log)

abbrev pub row_of : List LogEntry → Cursor → Row
row_of log cursor = record { backlog = owed log cursor.own.backlog cursor.tail; is_member = is_some cursor.tail }

-- nothing of a log of this size waits
abbrev pub is_at_end : ℕ → Option ℕ → Bool
is_at_end size None = true
is_at_end size (Some tail) = tail == size

-- lines of its own can be given to it
abbrev pub is_settled : ℕ → Cursor → Bool
is_settled size cursor = is_at_end size cursor.tail && cursor.own.is_kept

abbrev pub IsTailWithin : ℕ → Option ℕ → Type 0
IsTailWithin size None = Unit {0}
IsTailWithin size (Some tail) = tail ≤ size

-- its place is one of a log of this size, or its end
abbrev pub IsInLog : ℕ → Cursor → Type 0
IsInLog size cursor = IsTailWithin size cursor.tail

abbrev pub IsTailPast : ℕ → Option ℕ → Type 0
IsTailPast count None = Unit {0}
IsTailPast count (Some tail) = count ≤ tail

-- none of the first entries, as many as these, waits
abbrev pub IsPast : ℕ → Cursor → Type 0
IsPast count cursor = IsTailPast count cursor.tail

abbrev pub tail_after : ℕ → Option ℕ → Option ℕ
tail_after count None = None
tail_after count (Some tail) = Some (tail - count)

-- so many first entries have left the log
abbrev pub shifted : ℕ → Cursor → Cursor
shifted count cursor = record cursor { tail = tail_after count cursor.tail }

-- ---- all connections

abbrev pub rows_of : List LogEntry → List Cursor → List Row
rows_of log cursors = map (row_of log) cursors

abbrev pub settled_of : List LogEntry → List Cursor → List Bool
settled_of log cursors = map (is_settled (length log)) cursors

abbrev pub AreWithin : List LogEntry → List Cursor → Type 0
AreWithin log cursors = All (IsInLog (length log)) cursors

-- ---- changes of the lines of its own, and of its place

abbrev pub cursor_given : List (List ℕ) → Cursor → Cursor
cursor_given share cursor = record cursor { own = own_with (backlog_after cursor.own.backlog share) cursor.own }

abbrev pub cursor_taken : ℕ → Cursor → Cursor
cursor_taken count cursor = record cursor { own = own_with (with_lines cursor.own.backlog (drop count cursor.own.backlog.lines)) cursor.own }

abbrev pub with_tail : Option ℕ → Cursor → Cursor
with_tail tail cursor = record cursor { tail = tail }

abbrev cursor_at : ℕ → List Cursor → Cursor
cursor_at place cursors = get_or cursors place (record { own = nothing_own 0 0; tail = None })

-- the lines of its own of the cursor at a place
abbrev pub own_at : ℕ → List Cursor → Backlog
own_at place cursors = (cursor_at place cursors).own.backlog

-- whether it has an outbox
abbrev pub is_kept_at : ℕ → List Cursor → Bool
is_kept_at place cursors = (cursor_at place cursors).own.is_kept
