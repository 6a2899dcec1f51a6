use Rattle.std.proofs.Common.{◌≡◌, ◌≤◌, ◌-◌, length, drop, take}
use Rattle.shared_log.specs.Entries.{after_all}
use Rattle.shared_log.specs.Tallies.{IsTally}
use Rattle.shared_log.proofs.cursor.Cursor.tally.Given as goal

abbrev pub invariant-loop-place : goal.invariant-loop-place
invariant-loop-place l =
    record {
      end : l.place-end ≡ length l.log.items;
      from : l.tail ≤ l.place;
      within : l.place ≤ length l.log.items;
      counted : IsTally (after_all l.self.own.backlog (take (l.place - l.tail) (drop l.tail l.log.items))) l.tally;
    }
