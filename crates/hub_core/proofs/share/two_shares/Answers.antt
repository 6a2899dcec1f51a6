use Rattle.std.proofs.Common.{◌∙◌, ap, ap₂, ◌++◌, List, arith}
use Rattle.hub_core.specs.declared.seat.Seat.{Seat}
use Rattle.hub_core.specs.declared.share.Share.{Share}
use Rattle.hub_core.specs.Owed.{share_at}
use Rattle.hub_core.specs.Seats.{seat_share}
use Rattle.hub_core.proofs.Owed.{alone-owed, both-owed}
use Rattle.hub_core.proofs.share.two_shares.Goals as goal

pub returns-then-second-first : goal.returns-then-second-first
returns-then-second-first c =
    c.in_ok-push_owed.ensures
    ∙ ap (λ (ss : List Share). ss ++ share_at c.args.first (seat_share c.args.number c.args.effect.now c.index-seats-first.result)) c.new-shares.ensures.items
    ∙ ap (λ (s : Seat). share_at c.args.first (seat_share c.args.number c.args.effect.now s)) c.index-seats-first.is
    ∙ alone-owed (seat_share c.args.number c.args.effect.now) c.args.seats.now c.args.first c.args.second c.index-seats-first.result c.if-second-first.true c.requires.quiet

pub returns : goal.returns
returns c =
    c.in_ok-push_owed-2.ensures
    ∙ ap (λ (ss : List Share). ss ++ share_at c.args.second (seat_share c.args.number c.args.effect.now c.index-seats-second.result))
    (c.in_ok-push_owed.ensures ∙ ap (λ (ss : List Share). ss ++ share_at c.args.first (seat_share c.args.number c.args.effect.now c.index-seats-first.result)) c.new-shares.ensures.items)
    ∙ ap₂ (λ (s t : Seat). share_at c.args.first (seat_share c.args.number c.args.effect.now s) ++ share_at c.args.second (seat_share c.args.number c.args.effect.now t))
    c.index-seats-first.is c.index-seats-second.is
    ∙ both-owed (seat_share c.args.number c.args.effect.now) c.args.seats.now c.args.first c.args.second c.index-seats-first.result c.index-seats-second.result
    (omega (arith, c.requires.order, c.if-second-first.false)) c.requires.quiet
