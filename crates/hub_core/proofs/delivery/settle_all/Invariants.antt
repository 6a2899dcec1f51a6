use Rattle.std.proofs.Common.{ℕ, ◌<◌}
use Rattle.hub_core.specs.Deliveries.{WaitsAs}
use Rattle.shared_log.specs.Tables.{IsSettled}
use Rattle.hub_core.proofs.delivery.settle_all.Given as goal

abbrev pub invariant-loop-place : goal.invariant-loop-place
invariant-loop-place l = WaitsAs l.fn.backlogs l.backlogs × ((place : ℕ) → place < l.place → IsSettled place l.backlogs)
