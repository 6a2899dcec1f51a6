use Rattle.std.proofs.Common.{◌∙◌}
use Rattle.counted_io.proofs.Failing.{last-after}
use Rattle.counted_io.proofs.Writes.{within-rest, Appends-rest, front-kept}
use Rattle.counted_io.proofs.writing.write_and_flush_counted.Goals as goal

pub loop-taken-preserved : goal.loop-taken-preserved
loop-taken-preserved g c = record {
  within = within-rest c.args.bytes.now c.loop-taken.taken c.in-Ok.count c.loop-taken.invariant.within c.in-Ok.ensures.bound;
  so_far = Appends-rest _ _ _ c.args.bytes.now c.loop-taken.taken c.in-Ok.count c.loop-taken.invariant.so_far c.in-Ok.ensures.bytes;
  none = c.in-Ok.ensures.counts ∙ c.loop-taken.invariant.none;
}

pub returns-in-Err-clause-err : goal.returns-in-Err-clause-err
returns-in-Err-clause-err g c = front-kept _ _ _ c.args.bytes.now c.loop-taken.taken c.loop-taken.invariant.so_far c.in-Err.ensures.bytes

pub returns-in-Err-clause-counts : goal.returns-in-Err-clause-counts
returns-in-Err-clause-counts g c =
    last-after (g.W.CountedWrite.failures c.args.writer.now) (g.W.CountedWrite.failures c.loop-taken.writer) _ c.loop-taken.invariant.none c.in-Err.ensures.counts
