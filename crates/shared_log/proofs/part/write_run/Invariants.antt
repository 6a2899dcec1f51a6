use Rattle.std.proofs.Common.{◌≡◌, ◌++◌, ◌≤◌, length}
use Rattle.std.specs.List.{concat}
use Rattle.shared_log.specs.Entries.{all_lines}
use Rattle.shared_log.specs.Parts.{between}
use Rattle.shared_log.proofs.part.write_run.Given as goal

abbrev pub invariant-loop-place : goal.invariant-loop-place
invariant-loop-place l =
    record {
      start : l.start ≡ length l.fn.out.items;
      from : l.tail ≤ l.place;
      written : l.out.items ≡ l.fn.out.items ++ concat (all_lines (between l.log.items l.tail l.place));
    }
