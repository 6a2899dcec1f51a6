use Rattle.std.proofs.Common.{ap, ◌∙◌}
use Rattle.one_history.proofs.Seats.{ready, seated}
use Rattle.one_history.proofs.lock.Lock.release_with.Goals as goal

pub release_with-requires-clause-ready : goal.release_with-requires-clause-ready
release_with-requires-clause-ready g c =
    let h = c.requires in
    ready c.seat.inside.place.table_id c.seat.inside.place.me c.args.self.now c.args.seat.now c.seat.view_is g.T.Recorded.by g.T.Recorded.legal g.T.Recorded.stands
    g.B.MadeEntry.entry c.args.value c.exchange-before.new.seat.me c.seat.invariant c.exchange-before.ensures.3 h.holds h.mine h.legal h.stands

pub invariant_of-seat : goal.invariant_of-seat
invariant_of-seat g c =
    let o = c.exchange-before.ensures.3 in
    let seat = c.seat.invariant in
    seated g.B.MadeEntry.entry c.exchange-before.new.seat.me c.release_with.new.place.me seat.claim
    (ap (λ m. m.0.claims) o ∙ seat.only) (ap (λ m. m.0.count) o ∙ seat.guest) c.release_with.ensures.added
