use Rattle.std.proofs.Common.{◌∙◌, sym, subst, arith}
use Rattle.hub_core.specs.Deliveries.{WaitsAs}
use Rattle.hub_core.proofs.Settling.{HaveRoomTo, room-past, room-settled, waits-self, waits-settled, waits-then}
use Rattle.hub_core.proofs.delivery.settle_each.Goals as goal
use Rattle.hub_core.proofs.delivery.settle_each.Goals.{then-share-len+in_ok-settle, else-share-len}

pub loop-share-init : goal.loop-share-init
loop-share-init c = (waits-self c.args.backlogs.now, λ k d less. absurd (omega (arith, less)))

pub returns-in_err-settle-clause-kept : goal.returns-in_err-settle-clause-kept
returns-in_err-settle-clause-kept c = subst (WaitsAs c.args.backlogs.now) (sym c.in_err-settle.ensures.err) c.loop-share.invariant.0

pub loop-share-preserved : goal.loop-share-preserved
loop-share-preserved c =
    elim c.if-share-len.branch [
      | then-share-len+in_ok-settle w ↦ (
        waits-then c.loop-share.invariant.0 (waits-settled c.share-item.result.place c.loop-share.backlogs c.if-share-len.backlogs (w.backlogs-is ∙ w.in_ok-settle.ensures.ok)),
        subst (HaveRoomTo _ _) (sym w.backlogs-is)
            (room-settled c.loop-share.share-index c.args.shares.now c.share-item.result c.loop-share.backlogs w.settle.new.self c.share-item.is c.loop-share-test.true
            w.in_ok-settle.ensures.ok w.in_ok-settle.ensures.settled c.loop-share.invariant.1),
      )
      | else-share-len w ↦ (
        subst (WaitsAs c.args.backlogs.now) (sym w.backlogs-is) c.loop-share.invariant.0,
        room-past c.loop-share.share-index c.args.shares.now c.share-item.result c.loop-share.backlogs c.if-share-len.backlogs c.share-item.is c.loop-share-test.true w.backlogs-is
            (omega (arith, w.if-share-len.false, c.len.ensures)) c.loop-share.invariant.1,
      )
    ]

pub returns-clause-kept : goal.returns-clause-kept
returns-clause-kept c = c.loop-share.invariant.0

pub returns-clause-settled : goal.returns-clause-settled
returns-clause-settled c k d less = c.loop-share.invariant.1 k d (omega (arith, less, c.loop-share-test.false)) less
