-- The fields of backlogs as contracts see them.
use Rattle.std.specs.Prelude.{ℕ, ◌+◌, ◌≤◌, Bool, true, false, length}
use Rattle.shared_log.specs.declared.backlogs.Backlogs.TheInside.{Inside}
use Rattle.shared_log.specs.Cursors.{AreWithin, rows_of, settled_of}
use Rattle.shared_log.specs.Tables.{Table}

abbrev pub table_in : Inside → Table
table_in b = record {
  rows = rows_of b.log.items b.cursors.items;
  settled = settled_of b.log.items b.cursors.items;
  is_ready = b.is_ready;
  cap = b.cap;
  bytes = b.bytes;
}

abbrev pub place_if : Bool → ℕ
place_if true = 1
place_if false = 0

-- each place is one of the log, and the log has a free place for the news of each connection's quit, and for the batch for
-- which room was made
pub record IsTable (b : Inside) : Type 0 where
  pub within : AreWithin b.log.items b.cursors.items
  pub room : length b.log.items + length b.cursors.items + place_if b.is_ready ≤ b.log.capacity
