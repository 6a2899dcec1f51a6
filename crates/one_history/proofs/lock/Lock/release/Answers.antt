use Rattle.one_history.proofs.Seats.{unchanged}
use Rattle.one_history.proofs.lock.Lock.release.Goals as goal

pub release-requires-clause-ready : goal.release-requires-clause-ready
release-requires-clause-ready g c =
    unchanged c.seat.inside.place.table_id c.seat.inside.place.me c.args.self.now c.args.seat.now c.seat.view_is g.T.Recorded.stands
    c.args.value c.exchange-before.new.seat.me c.seat.invariant c.exchange-before.ensures.3 c.requires.holds c.requires.stands
