use Rattle.std.proofs.Common.{length}
use Rattle.std.specs.List.{slice_split}
use Rattle.history_check.proofs.Lines.{ReadSoFar}
use Rattle.history_check.specs.Text.{is_line_feed}
use Rattle.history_check.proofs.reading.read_history.Given as goal

abbrev pub invariant-loop-place : goal.invariant-loop-place
invariant-loop-place l = ReadSoFar (slice_split is_line_feed l.text) (length l.yielded) l.written.entries.items l.written.lines.items
