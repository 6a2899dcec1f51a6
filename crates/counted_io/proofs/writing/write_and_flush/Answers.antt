use Rattle.counted_io.proofs.Writes.{within-rest, Appends-rest, front-rest, front-kept}
use Rattle.counted_io.proofs.writing.write_and_flush.Goals as goal

pub loop-written-preserved : goal.loop-written-preserved
loop-written-preserved g c = record {
  within = within-rest c.args.bytes.now c.loop-written.written c.in-Ok.count c.loop-written.invariant.within c.in-Ok.ensures.bound;
  so_far = Appends-rest _ _ _ c.args.bytes.now c.loop-written.written c.in-Ok.count c.loop-written.invariant.so_far c.in-Ok.ensures.bytes;
}

pub returns-in-Ok-eq0-clause-err : goal.returns-in-Ok-eq0-clause-err
returns-in-Ok-eq0-clause-err g c =
    front-rest _ _ _ c.args.bytes.now c.loop-written.written c.in-Ok-eq0.field-0 c.loop-written.invariant.so_far c.in-Ok-eq0.ensures.bytes

pub returns-in-Err-clause-err : goal.returns-in-Err-clause-err
returns-in-Err-clause-err g c = front-kept _ _ _ c.args.bytes.now c.loop-written.written c.loop-written.invariant.so_far c.in-Err.ensures.bytes
