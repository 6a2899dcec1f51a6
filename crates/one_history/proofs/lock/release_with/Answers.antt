use Rattle.std.proofs.Common.{arith}
use Rattle.one_history.proofs.Moves.{gives_entry}
use Rattle.one_history.proofs.lock.release_with.Goals as goal

pub swap-requires : goal.swap-requires
swap-requires g c =
    let h = c.requires in (
      h.here,
      omega arith,
      gives_entry g.T.Recorded.by g.T.Recorded.legal g.T.Recorded.stands c.args.board.now.key g.B.MadeEntry.entry c.args.board.now.table_id.slots c.args.place.now.id c.args.place.now.me h.one.1 h.ready,
    )
