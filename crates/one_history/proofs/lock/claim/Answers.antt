use Rattle.std.proofs.Common.{arith}
use Rattle.one_history.proofs.Moves.{swaps}
use Rattle.one_history.proofs.lock.claim.Goals as goal

pub swap-requires : goal.swap-requires
swap-requires g c =
    let h = c.requires in (
      h.here,
      omega arith,
      swaps g.T.Recorded.by g.T.Recorded.legal g.T.Recorded.stands c.args.board.now.key c.args.board.now.table_id.slots c.args.place.now.id c.args.place.now.me h.one.1 h.idle h.caller,
    )
