use Rattle.std.proofs.Common.{◌≡◌, ◌∙◌, ◌==◌, ap, get_or}
use Rattle.hub_core.specs.declared.seat.Seat.{Seat}
use Rattle.hub_core.specs.Seats.{seat_share}
use Rattle.hub_core.proofs.Places.{StandsFirst, stands_first}
use Rattle.hub_core.proofs.Rows.{sender-owed}
use Rattle.hub_core.proofs.Settling.{same-item}
use Rattle.hub_core.proofs.delivery.plan.Goals as goal

pub returns-then-is_for_all : goal.returns-then-is_for_all
returns-then-is_for_all c =
    let at : StandsFirst c.args.number c.args.seats.now c.args.place = stands_first c.args.number c.args.seats.now c.args.place c.requires.place in
    let seat : c.index-seats-place.result ≡ get_or c.args.seats.now c.args.place c.index-seats-place.result = c.index-seats-place.is in (
      c.in_ok-share.ensures,
      λ d.
          c.in_ok-own.ensures
          ∙ sender-owed c.args.number c.args.effect.now c.index-seats-place.result (ap (λ (s : Seat). s.number == c.args.number) seat ∙ at.here c.index-seats-place.result)
          ∙ ap (seat_share c.args.number c.args.effect.now) (seat ∙ same-item c.args.seats.now c.args.place c.index-seats-place.result d at.within),
      c.is_for_all.ensures c.if-is_for_all.true,
    )
