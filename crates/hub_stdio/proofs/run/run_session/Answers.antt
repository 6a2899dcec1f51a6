use Rattle.std.proofs.Common.{◌<◌, ◌∙◌, length, refl, take, arith}
use Rattle.std.specs.Arc.{arc_value}
use Rattle.counted_io.proofs.Failing.{last-after}
use Rattle.hub_stdio.specs.Faults.{StopsBy}
use Rattle.hub_stdio.proofs.Failing.{stop_after}
use Rattle.hub_stdio.proofs.Heard.{nothing_short, heard_nothing, heard_to_end, heard_to_failure, heard_too_often, heard_more, heard_out, heard_stopped, heard_ready, read_some}
use Rattle.hub_stdio.proofs.Refusals.{refused_by}
use Rattle.hub_stdio.proofs.run.run_session.Goals as goal

pub loop-turn-init : goal.loop-turn-init
loop-turn-init g c = record {
  heard = heard_nothing (arc_value c.args.setup.now) (g.H.SessionHash.digest_of c.args.hash.now) _ _ c.args.session.now.core c.args.session.now.framer c.requires.starts c.requires.unread;
  short = rw c.requires.unread nothing_short;
  room = refl;
  reads = refl;
  writes = refl;
}

pub hear-requires : goal.hear-requires
hear-requires g c = record {
  ready = heard_ready (arc_value c.args.setup.now) (g.H.SessionHash.digest_of c.args.hash.now) _ _ _ _ c.loop-turn.session.core c.loop-turn.session.framer c.loop-turn._turn c.loop-turn.invariant.heard;
}

pub returns-in-Ok-eq0-clause-ok : goal.returns-in-Ok-eq0-clause-ok
returns-in-Ok-eq0-clause-ok g c =
    let room : 0 < length c.read_counted.new.buf = omega (arith, c.read_counted.auto.buf, c.loop-turn.invariant.room) in
    heard_to_end (arc_value c.args.setup.now) (g.H.SessionHash.digest_of c.args.hash.now) _ _ _ _ c.loop-turn.session.core c.loop-turn.session.framer c.loop-turn._turn c.loop-turn.invariant.heard _
    c.in-Ok-eq0.field-0 c.read_counted.new.buf c.in-Ok-eq0.field-0-test c.in-Ok-eq0.ensures.bytes room c.loop-turn.invariant.short

pub returns-in_err-hear-in-Ok-clause-fault : goal.returns-in_err-hear-in-Ok-clause-fault
returns-in_err-hear-in-Ok-clause-fault g c =
    let some = read_some c.in-Ok.count c.read_counted.new.buf c.in-Ok.ensures.bound.0 c.in-Ok.count-test.1 in
    refused_by c.from_residual.result c.in_err-hear-in-Ok.field-0.0 (λ fault. StopsBy fault (arc_value c.args.setup.now) (g.H.SessionHash.digest_of c.args.hash.now) _ _) c.from_residual.ensures.1
    (heard_stopped (arc_value c.args.setup.now) (g.H.SessionHash.digest_of c.args.hash.now) _ _ _ _ c.loop-turn.session.core c.loop-turn.session.framer c.loop-turn._turn c.loop-turn.invariant.heard _
    (take c.in-Ok.count c.read_counted.new.buf) c.in-Ok.ensures.bytes.0
    (g.R.CountedRead.failures c.args.reader.now) (g.R.CountedRead.failures c.read_counted.new.self) (g.W.CountedWrite.failures c.args.writer.now) (g.W.CountedWrite.failures c.hear.new.writer)
    (c.in-Ok.ensures.counts ∙ c.loop-turn.invariant.reads)
    c.in_err-hear-in-Ok.field-0.0 c.hear.new.self.core _ c.hear.new.self.framer some c.in_err-hear-in-Ok.ensures.fault
    (stop_after c.in_err-hear-in-Ok.field-0.0 (g.W.CountedWrite.failures c.args.writer.now) (g.W.CountedWrite.failures c.loop-turn.writer) (g.W.CountedWrite.failures c.hear.new.writer)
    c.loop-turn.invariant.writes c.in_err-hear-in-Ok.ensures.writes))

pub returns-then-branch-clause-ok : goal.returns-then-branch-clause-ok
returns-then-branch-clause-ok g c =
    let some = read_some c.in-Ok.count c.read_counted.new.buf c.in-Ok.ensures.bound.0 c.in-Ok.count-test.1 in
    heard_out (arc_value c.args.setup.now) (g.H.SessionHash.digest_of c.args.hash.now) _ _ _ _ c.loop-turn.session.core c.loop-turn.session.framer c.loop-turn._turn c.loop-turn.invariant.heard _
    (take c.in-Ok.count c.read_counted.new.buf) c.in-Ok.ensures.bytes.0 c.in_ok-hear-in-Ok.field-0 c.hear.new.self.core _ c.hear.new.self.framer c.in_ok-hear-in-Ok.ensures.ok.0 some c.if-branch.true

pub returns-in-Err-clause-fault : goal.returns-in-Err-clause-fault
returns-in-Err-clause-fault g c = (
  heard_to_failure (arc_value c.args.setup.now) (g.H.SessionHash.digest_of c.args.hash.now) _ _ _ _ c.loop-turn.session.core c.loop-turn.session.framer c.loop-turn._turn c.loop-turn.invariant.heard _ c.in-Err.ensures.bytes,
  (
    last-after (g.R.CountedRead.failures c.args.reader.now) (g.R.CountedRead.failures c.loop-turn.reader) _ c.loop-turn.invariant.reads c.in-Err.ensures.counts,
    c.loop-turn.invariant.writes,
  ),
)

pub loop-turn-preserved : goal.loop-turn-preserved
loop-turn-preserved g c =
    let some = read_some c.in-Ok.count c.read_counted.new.buf c.in-Ok.ensures.bound.0 c.in-Ok.count-test.1 in
    record {
      heard = heard_more (arc_value c.args.setup.now) (g.H.SessionHash.digest_of c.args.hash.now) _ _ _ _ c.loop-turn.session.core c.loop-turn.session.framer c.loop-turn._turn c.loop-turn.invariant.heard _
          (take c.in-Ok.count c.read_counted.new.buf) c.in-Ok.ensures.bytes.0 c.in_ok-hear-in-Ok.field-0 c.hear.new.self.core _ c.hear.new.self.framer c.in_ok-hear-in-Ok.ensures.ok.0 some;
      short = c.in_ok-hear-in-Ok.ensures.ok.1 c.if-branch.false;
      room = omega (arith, c.read_counted.auto.buf, c.loop-turn.invariant.room);
      reads = c.in-Ok.ensures.counts ∙ c.loop-turn.invariant.reads;
      writes = c.in_ok-hear-in-Ok.ensures.writes ∙ c.loop-turn.invariant.writes;
    }

pub returns-clause-fault : goal.returns-clause-fault
returns-clause-fault g c = (
  heard_too_often (arc_value c.args.setup.now) (g.H.SessionHash.digest_of c.args.hash.now) _ _ _ _ c.loop-turn.session.core c.loop-turn.session.framer c.loop-turn._turn c.loop-turn.invariant.heard (omega arith),
  (c.loop-turn.invariant.reads, c.loop-turn.invariant.writes),
)
