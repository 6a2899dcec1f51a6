use Rattle.std.proofs.Common.{rules, arith}
use Rattle.one_history.proofs.SeatRules.{gathers}
use Rattle.one_history.proofs.Seats.{gathered_count, idle}
use Rattle.one_history.proofs.host.Host.gather.Goals as goal

pub join_seat-requires : goal.join_seat-requires
join_seat-requires g c =
    let host = c.self.inside.place in
    let place = c.into_place.result in
    let seat = c.into_place.ensures in
    let free = idle place.table_id place.me c.args.lock.now c.args.seat seat.shown seat.seat c.requires.idle in (
      search rules,
      search rules,
      free.0,
      omega arith,
      gathers g.T.Recorded.by g.T.Recorded.legal g.T.Recorded.stands c.lock.inside.table.shared.key host.id place.id host.me.0 place.me.0 c.self.invariant.idle.1 free.1 seat.seat.guest,
    )

pub overflow_add-self : goal.overflow_add-self
overflow_add-self g c =
    omega (arith, gathered_count c.self.inside.place.table_id c.self.inside.place.me c.args.self.now c.self.view_is, c.self.invariant.gone)
