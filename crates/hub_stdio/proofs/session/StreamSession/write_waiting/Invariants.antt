use Rattle.std.proofs.Common.{◌≡◌}
use Rattle.counted_io.specs.Calls.{NoneFailed}
use Rattle.hub_stdio.proofs.Takes.{TakesOn, first_waits}
use Rattle.hub_stdio.proofs.session.StreamSession.write_waiting.Given as goal

abbrev pub invariant-loop-taken : goal.invariant-loop-taken
invariant-loop-taken g l = record {
  takes : TakesOn l.fn.self.core l.self.core (g.W.Write.contents l.fn.writer) (g.W.Write.contents l.writer);
  framer : l.self.framer ≡ l.fn.self.framer;
  writes : NoneFailed (g.W.CountedWrite.failures l.fn.writer) (g.W.CountedWrite.failures l.writer);
}

abbrev pub decreases-loop-taken : goal.decreases-loop-taken
decreases-loop-taken g l = first_waits l.self.core.backlogs
