-- The first lines that wait for a connection: some of its own, and then whole entries of the log.
use Rattle.std.specs.Prelude.{◌≡◌, ℕ, ◌+◌, ◌-◌, ◌≤◌, ◌==◌, ◌&&◌, false, List, ◌++◌, drop, get_or, length, take, Some}
use Rattle.std.specs.List.{concat}
use Rattle.outboxes.specs.Backlogs.{Backlog}
use Rattle.outboxes.specs.declared.taken.Taken.{Taken}
use Rattle.shared_log.specs.declared.cursor.Cursor.{Cursor}
use Rattle.shared_log.specs.declared.entry.LogEntry.{LogEntry}
use Rattle.shared_log.specs.declared.part.LogPart.{LogPart}
use Rattle.shared_log.specs.declared.part.LogRun.{LogRun}
use Rattle.shared_log.specs.Cursors.{AreWithin, row_of, rows_of}
use Rattle.shared_log.specs.Entries.{all_lines}
use Rattle.shared_log.specs.Tables.{at_place, new_row, taken}
use Rattle.shared_log.specs.Entries.{all_lines}

-- the entries from one place on, up to another
abbrev pub between : List LogEntry → ℕ → ℕ → List LogEntry
between log tail end = take (end - tail) (drop tail log)

abbrev pub lines_in : List LogEntry → ℕ → ℕ → List (List ℕ)
lines_in log tail end = all_lines (between log tail end)

-- with what is left these are so many lines, or all
pub record AreWhole (log : List LogEntry) (tail count : ℕ) (run : LogRun) : Type 0 where
  pub from : tail ≤ run.end
  pub within : run.end ≤ length log
  pub counted : length (all_lines (between log tail run.end)) + run.left ≡ count
  pub first : all_lines (between log tail run.end) ≡ take count (all_lines (drop tail log))

-- nothing was left out, and these are the first of what waits
pub record IsLogPart (log : List LogEntry) (cursor : Cursor) (count : ℕ) (part : LogPart) : Type 0 where
  pub member : cursor.tail ≡ Some part.tail
  pub fits : (row_of log cursor).backlog.lags ≡ false
  pub own : part.own ≤ length cursor.own.backlog.lines
  pub from : part.tail ≤ part.end
  pub within : part.end ≤ length log
  pub first : take part.own cursor.own.backlog.lines ++ all_lines (between log part.tail part.end) ≡ take count (row_of log cursor).backlog.lines
  pub rest : drop part.own cursor.own.backlog.lines ++ all_lines (drop part.end log) ≡ drop count (row_of log cursor).backlog.lines
  pub lines : part.lines ≡ length (take count (row_of log cursor).backlog.lines)

abbrev pub backlog_of : List LogEntry → List Cursor → ℕ → Backlog
backlog_of log cursors place = (get_or (rows_of log cursors) place (new_row 0 0)).backlog

-- so many first lines of the connection at a place were taken, or all, and their bytes appended
pub record IsTakenPart (log : List LogEntry) (cursors : List Cursor) (place count : ℕ) (before : List ℕ) (answer : Taken) (now : List Cursor) (after : List ℕ) : Type 0 where
  pub rows : rows_of log now ≡ at_place place (taken count) (rows_of log cursors)
  pub within : AreWithin log now
  pub bytes : after ≡ before ++ concat (take count (backlog_of log cursors place).lines)
  pub lines : answer.lines ≡ length (take count (backlog_of log cursors place).lines)
  pub ended : answer.ended ≡ ((length (drop count (backlog_of log cursors place).lines) == 0) && (backlog_of log cursors place).lags)
