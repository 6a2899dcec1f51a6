use Rattle.std.proofs.Common.{◌∙◌, sym, arith}
use Rattle.hub_core.specs.Deliveries.{row_given}
use Rattle.hub_core.proofs.Rows.{share-given, share-past, shares-given}
use Rattle.hub_core.proofs.Settling.{room-head, room-kept, room-tail}
use Rattle.hub_core.proofs.delivery.give_each.Goals as goal

pub give_some-requires : goal.give_some-requires
give_some-requires c =
    room-head _ c.in-Some.share _ c.loop-share.backlogs c.loop-share.invariant.1 c.in-Some.ensures.steps.0 (omega (arith, c.if-share-len.true, c.len.ensures))

pub loop-share-preserved-then-share-len : goal.loop-share-preserved-then-share-len
loop-share-preserved-then-share-len c = (
  share-given _ c.loop-share.backlogs c.give_some.new.backlogs _ _ c.in-Some.share c.loop-share.invariant.0 c.in-Some.ensures.steps.0 c.give_some.ensures,
  room-kept c.in-Some.share.place (row_given c.in-Some.share.lines) _ c.loop-share.backlogs c.give_some.new.backlogs c.give_some.ensures
      (room-tail _ c.in-Some.share _ c.loop-share.backlogs c.loop-share.invariant.1 c.in-Some.ensures.steps.0),
)

pub loop-share-preserved : goal.loop-share-preserved
loop-share-preserved c = (
  share-past _ c.loop-share.backlogs _ _ c.in-Some.share c.loop-share.invariant.0 c.in-Some.ensures.steps.0 (omega (arith, c.if-share-len.false, c.len.ensures)),
  room-tail _ c.in-Some.share _ c.loop-share.backlogs c.loop-share.invariant.1 c.in-Some.ensures.steps.0,
)

pub returns : goal.returns
returns c = shares-given _ c.loop-share.backlogs _ c.loop-share.invariant.0 (sym c.loop-share.share-iterator.rest.ok.0 ∙ c.in-None.ensures.steps.0)
