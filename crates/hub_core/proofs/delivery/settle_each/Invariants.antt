use Rattle.hub_core.specs.Deliveries.{WaitsAs}
use Rattle.hub_core.proofs.Settling.{HaveRoomTo}
use Rattle.hub_core.proofs.delivery.settle_each.Given as goal

abbrev pub invariant-loop-share : goal.invariant-loop-share
invariant-loop-share l = WaitsAs l.fn.backlogs l.backlogs × HaveRoomTo l.share-index l.shares l.backlogs
