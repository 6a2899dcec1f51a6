use Rattle.std.specs.Prelude.{IsNone}
use Rattle.hub_warnings.specs.Queued.{AppendsPieces}
use Rattle.hub_warnings.proofs.queued.QueuedLines.write.Given as goal

abbrev pub invariant-loop-line : goal.invariant-loop-line
invariant-loop-line g l = IsNone l.fault → AppendsPieces l.fn.self.has_priorities (g.W.Write.contents l.fn.writer) (g.W.Write.contents l.writer)
