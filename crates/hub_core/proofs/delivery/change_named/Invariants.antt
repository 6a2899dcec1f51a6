use Rattle.std.proofs.Common.{◌≡◌, ◌++◌, map, take, drop, Some}
use Rattle.hub_core.specs.Seats.{seat_after_change_at}
use Rattle.hub_core.proofs.delivery.change_named.Given as goal

abbrev pub invariant-loop-seat : goal.invariant-loop-seat
invariant-loop-seat l =
    map (seat_after_change_at (Some (l.fn.sid, l.fn.change))) l.fn.seats
    ≡ take l.seat-index l.seats ++ map (seat_after_change_at (Some (l.fn.sid, l.fn.change))) (drop l.seat-index l.seats)
