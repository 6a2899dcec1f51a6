use Rattle.std.proofs.Common.{◌∙◌, ap}
use Rattle.std.specs.Prelude.{◌==◌, is_some}
use Rattle.hub_core.specs.declared.seat.Seat.{Seat}
use Rattle.hub_core.proofs.Numbers.{any-found}
use Rattle.hub_core.proofs.seat.has_seat.Goals as goal

pub returns : goal.returns
returns c = c.is_some.ensures ∙ ap is_some c.find.ensures ∙ any-found (λ (seat : Seat). seat.number == c.args.number) c.args.seats.now
