use Rattle.std.proofs.Common.{◌≤◌, ◌<◌, arith, sym, subst, get_or, length}
use Rattle.std.proofs.lemmas.Option.{slice_get-get_or}
use Rattle.server_tasks.specs.Becomes.{EachBecomes}
use Rattle.server_tasks.specs.Clients.{ticked_slot}
use Rattle.server_tasks.proofs.Mapped.{one_more_changed, all_changed, all_written}
use Rattle.server_tasks.proofs.pacing.tick_all.Goals as goal

pub loop-slot-preserved : goal.loop-slot-preserved
loop-slot-preserved c =
    let lt : c.loop-slot.slot-index < length c.loop-slot.slot-items = grind (arith, c.loop-slot-test.true, c.loop-slot.auto.slot-items) in
    one_more_changed (ticked_slot c.args.said c.args.due) c.args.slots.now.items c.loop-slot.slot-items c.loop-slot.slot-index
    (get_or c.loop-slot.slot-items c.loop-slot.slot-index c.slot-item.result) c.tick.new.self c.loop-slot.invariant lt
    (slice_get-get_or c.loop-slot.slot-items c.loop-slot.slot-index c.slot-item.result lt) c.tick.ensures

pub returns : goal.returns
returns c =
    let past : length c.loop-slot.slot-items ≤ c.loop-slot.slot-index = grind (arith, c.loop-slot-test.false, c.loop-slot.auto.slot-items) in
    let all : _ = all_written c.loop-slot.slot-items c.args.slots.now.items c.args.slots.now.len c.args.slots.now.ok.0 c.loop-slot.invariant.0 in
    subst (EachBecomes (ticked_slot c.args.said c.args.due) c.args.slots.now.items) (sym all)
    (all_changed (ticked_slot c.args.said c.args.due) c.args.slots.now.items c.loop-slot.slot-items c.loop-slot.slot-index past c.loop-slot.invariant)
