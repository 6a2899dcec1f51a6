use Rattle.std.proofs.Common.{◌≡◌, ◌++◌, map, take, drop, length}
use Rattle.std.specs.List.{AllWithin}
use Rattle.shared_log.specs.Cursors.{IsPast, shifted}
use Rattle.shared_log.proofs.cursors.shift.Given as goal

abbrev pub invariant-loop-cursor : goal.invariant-loop-cursor
invariant-loop-cursor l =
    record {
      done : map (shifted l.count) l.fn.cursors ≡ take l.cursor-index l.cursors ++ map (shifted l.count) (drop l.cursor-index l.cursors);
      past : AllWithin (IsPast l.count) l.cursors l.cursor-index (length l.cursors);
    }
