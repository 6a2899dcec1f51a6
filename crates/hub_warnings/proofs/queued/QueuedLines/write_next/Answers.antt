use Rattle.std.proofs.lemmas.Result.{on_ok_weaker}
use Rattle.hub_warnings.proofs.Pieces.{dropped-piece}
use Rattle.hub_warnings.proofs.queued.QueuedLines.write_next.Goals as goal

pub returns-in-Ok-clause-written : goal.returns-in-Ok-clause-written
returns-in-Ok-clause-written g c =
    on_ok_weaker c.tell_dropped-told.result
    (λ told. (g.W.Write.contents c.write-written.new.writer, c.in-Ok.ensures.bytes, dropped-piece g.C.WallClock.reads c.args.clock.now _ _ _ told))
    c.tell_dropped-told.ensures
