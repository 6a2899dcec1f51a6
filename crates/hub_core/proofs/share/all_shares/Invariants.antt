use Rattle.std.proofs.Common.{◌≡◌, ◌++◌, drop}
use Rattle.hub_core.specs.Owed.{shares_from}
use Rattle.hub_core.specs.Seats.{seat_share}
use Rattle.hub_core.proofs.share.all_shares.Given as goal

abbrev pub invariant-loop-place : goal.invariant-loop-place
invariant-loop-place l = l.shares.items ++ shares_from l.place (seat_share l.fn.number l.fn.effect) (drop l.place l.seats) ≡ shares_from 0 (seat_share l.fn.number l.fn.effect) l.seats
