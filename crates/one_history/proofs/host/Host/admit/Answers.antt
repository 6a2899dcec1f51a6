use Rattle.std.proofs.Common.{rules, arith}
use Rattle.one_history.proofs.SeatRules.{admits}
use Rattle.one_history.proofs.host.Host.admit.Goals as goal

pub split_seat-place-requires : goal.split_seat-place-requires
split_seat-place-requires g c =
    let place = c.self.inside.place in (
      search rules,
      omega arith,
      admits g.T.Recorded.by g.T.Recorded.legal g.T.Recorded.stands c.lock.inside.table.shared.key place.id place.me.0 c.self.invariant.first,
    )
