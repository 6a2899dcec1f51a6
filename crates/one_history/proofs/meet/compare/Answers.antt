use Rattle.std.proofs.Common.{rules, arith, ap, ◌∙◌}
use Rattle.one_history.proofs.SeatRules.{pairs}
use Rattle.one_history.proofs.Moves.{shows}
use Rattle.one_history.proofs.Meets.{fair_of}
use Rattle.one_history.proofs.meet.compare.Goals as goal

pub join_seat-requires : goal.join_seat-requires
join_seat-requires g c =
    let h = c.requires in
    let first = c.args.first.now in
    let second = c.args.second in (
      h.here.0,
      h.here.1,
      h.idle.1.0,
      omega arith,
      pairs g.T.Recorded.by g.T.Recorded.legal g.T.Recorded.stands c.args.board.now.key first.id second.id first.me.0 second.me.0 h.idle.0.1 h.idle.1.1 h.guest,
    )

pub load-requires : goal.load-requires
load-requires g c =
    let h = c.requires in
    let place = c.join_seat.new.seat in (
      search rules,
      omega arith,
      shows g.T.Recorded.by g.T.Recorded.legal g.T.Recorded.stands c.args.board.now.key c.args.board.now.table_id.slots place.id place.me h.one.1
          (ap (λ m. m.1) c.join_seat.ensures.2 ∙ h.idle.0.0),
    )

pub returns-clause-fair : goal.returns-clause-fair
returns-clause-fair g c =
    fair_of g.T.Recorded.by g.T.Recorded.legal c.join_seat.new.seat.me _ (ap (λ m. m.0) c.join_seat.ensures.2) c.load.ensures.2.1
