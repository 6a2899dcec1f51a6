use Rattle.std.specs.Prelude.{IsNone}
use Rattle.hub_warnings.proofs.Pieces.{on-ok, line-pieces, more-pieces}
use Rattle.hub_warnings.proofs.queued.QueuedLines.write.Goals as goal

pub loop-line-preserved : goal.loop-line-preserved
loop-line-preserved g c = λ (none : IsNone c.first_fault-fault.result).
    let two = c.first_fault-fault.ensures.0 none in
    more-pieces _ _ _ _ (c.loop-line.invariant two.0)
    (line-pieces _ _ _ _ c.write_next-written.ensures.whole (on-ok c.write_next-written.result two.1 c.write_next-written.ensures.written))

pub returns : goal.returns
returns g c = λ (none : IsNone c.first_fault.result).
    let two = c.first_fault.ensures.0 none in
    (g.W.Write.contents c.loop-line.writer, c.loop-line.invariant two.0, on-ok c.tell_dropped.result two.1 c.tell_dropped.ensures)
