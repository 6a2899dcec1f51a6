use Rattle.std.proofs.Common.{sym, ◌∙◌}
use Rattle.std.specs.Slots.{slots_items}
use Rattle.one_history.proofs.Ends.{ends_about, slot_of, settled}
use Rattle.one_history.proofs.lock.Lock.end.Goals as goal

pub unreachable-requires : goal.unreachable-requires
unreachable-requires g c =
    let place = c.into_place in
    let xs = slots_items c.close_with-closed.result.slots in
    let end = ends_about g.T.Recorded.by g.T.Recorded.legal g.T.Recorded.stands c.into_table.result.shared.key c.args.self.about c.into_table.ensures.shown.1
    place.result.id place.ensures.first place.result.me.0 place.result.table_id c.args.host place.ensures.shown c.requires.alone place.ensures.idle.1
    (slots_items c.close_with-closed.result.words) xs c.close_with-closed.ensures.values.2
    in
    c.in_default.not-Some end.value
    (slot_of g.T.Recorded.by (g.T.Recorded.legal c.args.self.about) (g.T.Recorded.stands c.args.self.about) place.result.me.0 xs end c.take-slot.result c.take-slot.ensures.value)

pub returns : goal.returns
returns g c =
    let place = c.into_place in
    let xs = slots_items c.close_with-closed.result.slots in
    let end = ends_about g.T.Recorded.by g.T.Recorded.legal g.T.Recorded.stands c.into_table.result.shared.key c.args.self.about c.into_table.ensures.shown.1
    place.result.id place.ensures.first place.result.me.0 place.result.table_id c.args.host place.ensures.shown c.requires.alone place.ensures.idle.1
    (slots_items c.close_with-closed.result.words) xs c.close_with-closed.ensures.values.2
    in
    let slot = slot_of g.T.Recorded.by (g.T.Recorded.legal c.args.self.about) (g.T.Recorded.stands c.args.self.about) place.result.me.0 xs end c.take-slot.result c.take-slot.ensures.value in
    settled g.T.Recorded.by (g.T.Recorded.legal c.args.self.about) (g.T.Recorded.stands c.args.self.about) place.result.me.0 xs end
    place.result.table_id c.args.host place.ensures.shown c.in-Some.value (let is = sym c.in-Some.is ∙ slot in cc)
