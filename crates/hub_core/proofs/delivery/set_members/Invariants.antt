use Rattle.std.proofs.Common.{◌≡◌, drop, length}
use Rattle.hub_core.specs.Deliveries.{with_members}
use Rattle.hub_core.specs.Backlogs.{here_in}
use Rattle.shared_log.specs.Tables.{with_rows}
use Rattle.hub_core.proofs.delivery.set_members.Given as goal

abbrev pub invariant-loop-place : goal.invariant-loop-place
invariant-loop-place l =
    (with_rows (with_members 0 (here_in l.fn.seats) l.fn.backlogs.rows) l.fn.backlogs ≡ with_rows (with_members l.place (here_in (drop l.place l.seats)) l.backlogs.rows) l.backlogs)
    × (l.backlogs.settled ≡ l.fn.backlogs.settled) × (length l.backlogs.rows ≡ length l.fn.backlogs.rows)
