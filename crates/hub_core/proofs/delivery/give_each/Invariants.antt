use Rattle.std.proofs.Common.{◌≡◌}
use Rattle.std.specs.Vec.Iter.{into_iter_items}
use Rattle.hub_core.specs.Deliveries.{HaveRoom, given_all}
use Rattle.shared_log.specs.Tables.{with_rows}
use Rattle.hub_core.proofs.delivery.give_each.Given as goal

abbrev pub invariant-loop-share : goal.invariant-loop-share
invariant-loop-share l =
    (with_rows (given_all l.fn.shares.items l.fn.backlogs.rows) l.fn.backlogs ≡ with_rows (given_all (into_iter_items l.share-iterator) l.backlogs.rows) l.backlogs)
    × HaveRoom (into_iter_items l.share-iterator) l.backlogs
