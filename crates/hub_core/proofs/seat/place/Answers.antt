use Rattle.std.proofs.Common.{sym}
use Rattle.std.specs.Prelude.{◌==◌}
use Rattle.hub_core.specs.declared.seat.Seat.{Seat}
use Rattle.hub_core.proofs.Places.{none_passes}
use Rattle.hub_core.proofs.seat.place.Goals as goal

pub unreachable-requires : goal.unreachable-requires
unreachable-requires c = none_passes (λ (seat : Seat). seat.number == c.args.number) c.args.seats.now c.requires.seated (sym c.in-None.ensures)
