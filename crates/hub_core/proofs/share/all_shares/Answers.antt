use Rattle.hub_core.specs.Seats.{seat_share}
use Rattle.hub_core.proofs.Owed.{shares-end, shares-more}
use Rattle.hub_core.proofs.share.all_shares.Goals as goal

pub loop-place-preserved : goal.loop-place-preserved
loop-place-preserved c =
    shares-more (seat_share c.args.number c.args.effect.now) c.args.seats.now c.loop-place.place c.index-seats-place.result c.loop-place.shares.items c.push_owed.new.shares.items _
    c.loop-place-test.true c.index-seats-place.is c.in_ok-push_owed.ensures c.loop-place.invariant

pub returns : goal.returns
returns c = shares-end (seat_share c.args.number c.args.effect.now) c.args.seats.now c.loop-place.place _ _ c.loop-place-test.false c.loop-place.invariant
