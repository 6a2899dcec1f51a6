use Rattle.std.proofs.Common.{◌≡◌, map, take}
use Rattle.hub_core.specs.declared.seat.Seat.{Seat}
use Rattle.hub_core.proofs.seat.sids.Given as goal

abbrev pub invariant-loop-seat : goal.invariant-loop-seat
invariant-loop-seat l = l.sids.items ≡ map (λ (seat : Seat). seat.sender.sid) (take l.seat-index l.seats)
