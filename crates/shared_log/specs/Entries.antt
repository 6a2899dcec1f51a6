-- The lines of the log's entries, and what a backlog becomes by them.
use Rattle.std.specs.Prelude.{ℕ, List, [], ◌∷◌, ◌++◌}
use Rattle.outboxes.specs.Backlogs.{Backlog, backlog_after}
use Rattle.outboxes.specs.Quits.{quit_line}
use Rattle.shared_log.specs.declared.entry.LogEntry.{LogEntry}
use Rattle.shared_log.specs.declared.entry.LogEntry.TheVariants.{Lines, Quit}

abbrev pub entry_lines : LogEntry → List (List ℕ)
entry_lines (Lines batch) = batch
entry_lines (Quit sid) = quit_line sid ∷ []

-- each entry is given in turn
unfoldable pub after_all : Backlog → List LogEntry → Backlog
after_all backlog [] = backlog
after_all backlog (entry ∷ entries) = after_all (backlog_after backlog (entry_lines entry)) entries

-- the lines of entries, in order
abbrev pub all_lines : List LogEntry → List (List ℕ)
all_lines [] = []
all_lines (entry ∷ entries) = entry_lines entry ++ all_lines entries
