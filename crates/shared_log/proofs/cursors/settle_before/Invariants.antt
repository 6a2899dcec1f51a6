use Rattle.std.proofs.Common.{◌≡◌, length, map, take}
use Rattle.std.specs.List.{All}
use Rattle.shared_log.specs.Cursors.{IsPast, IsInLog, row_of}
use Rattle.shared_log.proofs.cursors.settle_before.Given as goal

abbrev pub invariant-loop-cursor : goal.invariant-loop-cursor
invariant-loop-cursor l =
    record {
      kept : map (row_of l.log.items) l.cursors ≡ map (row_of l.log.items) l.fn.cursors;
      within : All (IsInLog (length l.log.items)) l.cursors;
      past : All (IsPast l.count) (take l.cursor-index l.cursors);
    }
