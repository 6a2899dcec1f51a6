use Rattle.std.proofs.Common.{◌++◌, ◌∙◌, refl}
use Rattle.std.specs.Arc.{arc_value}
use Rattle.hub_stdio.specs.declared.fault.RunFault.TheVariants.{Memory}
use Rattle.hub_stdio.proofs.Failing.{end_by, stop_after}
use Rattle.hub_stdio.proofs.Hearing.{hears_nothing, hears_short, hears_part, hears_line, hears_too_long, stops_by}
use Rattle.hub_stdio.proofs.Lines.{breaks_at_once}
use Rattle.hub_stdio.proofs.session.StreamSession.hear.Goals as goal

pub loop-self-init : goal.loop-self-init
loop-self-init g c = record {
  heard = hears_nothing (arc_value c.args.setup.now) (g.H.SessionHash.digest_of c.args.hash.now) (c.args.self.now.framer ++ c.args.piece.now) c.feed.new.self c.args.self.now.core _ c.in_ok-feed.ensures.ok;
  writes = refl;
}

pub returns-in_err-feed-clause-fault : goal.returns-in_err-feed-clause-fault
returns-in_err-feed-clause-fault g c =
    stops_by (arc_value c.args.setup.now) (g.H.SessionHash.digest_of c.args.hash.now) c.from_residual.result Memory _ _ _ _ _ _ c.from_residual.ensures.1 tt
    (breaks_at_once (arc_value c.args.setup.now) (g.H.SessionHash.digest_of c.args.hash.now) _ _ _)

pub returns-in_err-next-clause-fault : goal.returns-in_err-next-clause-fault
returns-in_err-next-clause-fault g c =
    stops_by (arc_value c.args.setup.now) (g.H.SessionHash.digest_of c.args.hash.now) c.from_residual-in_err-next.result Memory _ _ _ _ _ _ c.from_residual-in_err-next.ensures.1 tt
    (hears_short (arc_value c.args.setup.now) (g.H.SessionHash.digest_of c.args.hash.now) (c.args.self.now.framer ++ c.args.piece.now) c.loop-self.self.framer c.loop-self.ended c.args.self.now.core c.loop-self.self.core _ _ c.loop-self.invariant.heard)

pub returns-in_err-ended-in-Line-clause-fault : goal.returns-in_err-ended-in-Line-clause-fault
returns-in_err-ended-in-Line-clause-fault g c =
    stops_by (arc_value c.args.setup.now) (g.H.SessionHash.digest_of c.args.hash.now) c.from_residual-in_err-ended-in-Line.result c.in_err-ended-in-Line.field-0.0 _ _ _ _ _ _ c.from_residual-in_err-ended-in-Line.ensures.1
    c.in_err-ended-in-Line.ensures.fault
    (hears_part (arc_value c.args.setup.now) (g.H.SessionHash.digest_of c.args.hash.now) (c.args.self.now.framer ++ c.args.piece.now) c.loop-self.self.framer c.loop-self.ended c.args.self.now.core c.loop-self.self.core _ _ c.loop-self.invariant.heard
    c.loop-self.self.line.items c.next.new.out.items c.next.new.self c.in_ok-next.field-0 c.in-Line.is c.in_ok-next.ensures.ok _ c.in_err-ended-in-Line.ensures.err)

pub loop-self-preserved : goal.loop-self-preserved
loop-self-preserved g c =
    let heard = hears_line (arc_value c.args.setup.now) (g.H.SessionHash.digest_of c.args.hash.now) (c.args.self.now.framer ++ c.args.piece.now) c.loop-self.self.framer c.loop-self.ended c.args.self.now.core c.loop-self.self.core _ _ c.loop-self.invariant.heard
    c.loop-self.self.line.items c.next.new.out.items c.next.new.self c.in_ok-next.field-0 c.in-Line.is c.in_ok-next.ensures.ok c.in_ok-ended-in-Line.ended c.answer.new.self.core _ c.in_ok-ended-in-Line.ensures.ok in
    record { heard = rw c.in_ok-ended-in-Line.ensures.framer heard; writes = c.in_ok-ended-in-Line.ensures.writes ∙ c.loop-self.invariant.writes }

pub returns-in-TooLong-2-clause-fault : goal.returns-in-TooLong-2-clause-fault
returns-in-TooLong-2-clause-fault g c =
    hears_too_long (arc_value c.args.setup.now) (g.H.SessionHash.digest_of c.args.hash.now) (c.args.self.now.framer ++ c.args.piece.now) c.loop-self.self.framer c.loop-self.ended c.args.self.now.core c.loop-self.self.core _ _ c.loop-self.invariant.heard
    c.loop-self.self.line.items c.next.new.out.items c.next.new.self c.in_ok-next.field-0 c.in-TooLong-2.is c.in_ok-next.ensures.ok c.in_ok-next.ensures.first

pub returns-in_err-feed-clause-writes : goal.returns-in_err-feed-clause-writes
returns-in_err-feed-clause-writes g c =
    end_by c.from_residual.result Memory (g.W.CountedWrite.failures c.args.writer.now) (g.W.CountedWrite.failures c.args.writer.now) c.from_residual.ensures.1 refl

pub returns-in_err-next-clause-writes : goal.returns-in_err-next-clause-writes
returns-in_err-next-clause-writes g c =
    end_by c.from_residual-in_err-next.result Memory (g.W.CountedWrite.failures c.args.writer.now) (g.W.CountedWrite.failures c.loop-self.writer)
    c.from_residual-in_err-next.ensures.1 c.loop-self.invariant.writes

pub returns-in_err-ended-in-Line-clause-writes : goal.returns-in_err-ended-in-Line-clause-writes
returns-in_err-ended-in-Line-clause-writes g c =
    let fault = c.in_err-ended-in-Line.field-0.0 in
    let old = g.W.CountedWrite.failures c.args.writer.now in
    let new = g.W.CountedWrite.failures c.answer.new.writer in
    end_by c.from_residual-in_err-ended-in-Line.result fault old new c.from_residual-in_err-ended-in-Line.ensures.1
    (stop_after fault old (g.W.CountedWrite.failures c.loop-self.writer) new c.loop-self.invariant.writes c.in_err-ended-in-Line.ensures.writes)
