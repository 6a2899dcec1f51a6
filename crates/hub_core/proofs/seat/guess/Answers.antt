use Rattle.hub_core.proofs.Numbers.{found-at}
use Rattle.hub_core.proofs.seat.guess.Goals as goal

pub returns : goal.returns
returns c = found-at c.args.number c.args.seats.now c.requires c.in_ok-place.place c.if-place-seats.false c.index-seats-place.result c.if-seats-place.false
