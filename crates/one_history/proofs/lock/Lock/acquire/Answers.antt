use Rattle.std.proofs.Common.{rules, ap}
use Rattle.one_history.proofs.Seats.{slot_first, own_entries}
use Rattle.one_history.proofs.lock.Lock.acquire.Goals as goal

pub exchange-requires : goal.exchange-requires
exchange-requires g c =
    let seized = c.seize.ensures.seized in
    (search rules, (_, slot_first c.seize.new.place.me _ (ap (λ m. m.1) seized.now)))

pub returns-clause-entries : goal.returns-clause-entries
returns-clause-entries g c =
    own_entries c.seat.inside.place.table_id c.seat.inside.place.me c.args.self.now c.args.seat.now c.seat.view_is g.T.Recorded.by g.T.Recorded.legal g.T.Recorded.stands
    c.seize.new.place.me c.exchange.new.seat.me c.seat.invariant c.requires.idle.0 c.seize.ensures.seized (ap (λ m. m.0) c.exchange.ensures.3)
