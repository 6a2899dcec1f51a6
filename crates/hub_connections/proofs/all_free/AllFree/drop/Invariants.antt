use Rattle.std.proofs.Common.{◌≡◌, length}
use Rattle.server_tasks.specs.declared.places.PlacesDeed.TheVariants.{Emptied}
use Rattle.hub_connections.proofs.all_free.AllFree.drop.Given as goal

abbrev pub invariant-loop-vacant : goal.invariant-loop-vacant
invariant-loop-vacant g l = l.word ≡ Emptied

-- one less is left at each turn
abbrev pub decreases-loop-vacant : goal.decreases-loop-vacant
decreases-loop-vacant g l = length l.free.items
