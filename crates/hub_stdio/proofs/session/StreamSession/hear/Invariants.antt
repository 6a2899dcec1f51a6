use Rattle.std.proofs.Common.{◌++◌, length}
use Rattle.std.specs.Arc.{arc_value}
use Rattle.counted_io.specs.Calls.{NoneFailed}
use Rattle.hub_stdio.proofs.Hearing.{HearsOn}
use Rattle.hub_stdio.proofs.session.StreamSession.hear.Given as goal

abbrev pub invariant-loop-self : goal.invariant-loop-self
invariant-loop-self g l = record {
  heard : HearsOn (arc_value l.fn.setup) (g.H.SessionHash.digest_of l.fn.hash) (l.fn.self.framer ++ l.fn.piece) l.self.framer l.ended l.fn.self.core l.self.core
      (g.W.Write.contents l.fn.writer) (g.W.Write.contents l.writer);
  writes : NoneFailed (g.W.CountedWrite.failures l.fn.writer) (g.W.CountedWrite.failures l.writer);
}

-- each line takes bytes from the framer
abbrev pub decreases-loop-self : goal.decreases-loop-self
decreases-loop-self g l = length l.self.framer
