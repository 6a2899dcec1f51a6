use Rattle.std.proofs.Common.{◌≡◌, ◌+◌, ◌≤◌, length}
use Rattle.shared_log.specs.Entries.{all_lines}
use Rattle.shared_log.specs.Parts.{between}
use Rattle.shared_log.proofs.part.run_from.Given as goal

abbrev pub invariant-loop-place : goal.invariant-loop-place
invariant-loop-place l =
    record {
      end : l.place-end ≡ length l.log.items;
      from : l.tail ≤ l.place;
      within : l.place ≤ length l.log.items;
      counted : length (all_lines (between l.log.items l.tail l.place)) + l.left ≡ l.fn.count;
    }
