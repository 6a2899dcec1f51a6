use Rattle.std.proofs.Common.{◌≡◌, length}
use Rattle.std.specs.Arc.{arc_value}
use Rattle.adc_line.specs.Stream.{IsLine}
use Rattle.counted_io.specs.Calls.{NoneFailed}
use Rattle.hub_stdio.proofs.Heard.{IsHeard}
use Rattle.hub_stdio.proofs.run.run_session.Given as goal

abbrev pub invariant-loop-turn : goal.invariant-loop-turn
invariant-loop-turn g l = record {
  heard : IsHeard (arc_value l.fn.setup) (g.H.SessionHash.digest_of l.fn.hash) (g.R.Read.remaining l.fn.reader) (g.R.Read.remaining l.reader) (g.W.Write.contents l.fn.writer) (g.W.Write.contents l.writer)
      l.session.core l.session.framer l._turn;
  short : IsLine l.session.framer;
  room : length l.buffer ≡ 4096;
  reads : NoneFailed (g.R.CountedRead.failures l.fn.reader) (g.R.CountedRead.failures l.reader);
  writes : NoneFailed (g.W.CountedWrite.failures l.fn.writer) (g.W.CountedWrite.failures l.writer);
}
