use Rattle.std.proofs.Common.{◌≡◌, ◌≤◌, true, Some, length, drop}
use Rattle.shared_log.specs.Entries.{after_all}
use Rattle.shared_log.proofs.cursor.Cursor.settle.Given as goal

abbrev pub invariant-loop-place : goal.invariant-loop-place
invariant-loop-place l =
    record {
      first : l.fn.self.tail ≡ Some l.tail;
      end : l.place-end ≡ length l.log.items;
      from : l.tail ≤ l.place;
      within : l.place ≤ length l.log.items;
      tail : l.self.tail ≡ Some l.place;
      kept : l.self.own.is_kept ≡ true;
      owed : after_all l.self.own.backlog (drop l.place l.log.items) ≡ after_all l.fn.self.own.backlog (drop l.tail l.log.items);
    }
