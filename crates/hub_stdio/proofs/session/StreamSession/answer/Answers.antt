use Rattle.std.proofs.Common.{◌∙◌, ap₂, refl}
use Rattle.std.specs.Arc.{arc_value}
use Rattle.hub_rules.specs.Prepared.{prepared_line}
use Rattle.hub_stdio.specs.Runs.{zeros}
use Rattle.hub_stdio.specs.declared.fault.RunFault.TheVariants.{Memory}
use Rattle.hub_stdio.proofs.Failing.{end_by}
use Rattle.hub_stdio.proofs.Refusals.{at_refusal}
use Rattle.hub_stdio.proofs.Lines.{breaks_at_once, ready_seated, said_running, said_whole, said_short}
use Rattle.hub_stdio.proofs.session.StreamSession.answer.Goals as goal

pub line-requires : goal.line-requires
line-requires g c = record { seated = ready_seated (arc_value c.args.setup.now) (g.H.SessionHash.digest_of c.args.hash.now) _ _ _ c.args.self.now.is_first c.requires.ready }

pub returns-in_err-line-clause-err : goal.returns-in_err-line-clause-err
returns-in_err-line-clause-err g c =
    at_refusal c.from_residual.result (breaks_at_once (arc_value c.args.setup.now) (g.H.SessionHash.digest_of c.args.hash.now) _ _ _)

pub returns-in_err-_verdict-clause-err : goal.returns-in_err-_verdict-clause-err
returns-in_err-_verdict-clause-err g c =
    at_refusal c.from_residual-in_err-_verdict.result (breaks_at_once (arc_value c.args.setup.now) (g.H.SessionHash.digest_of c.args.hash.now) _ _ _)

pub write_waiting-requires : goal.write_waiting-requires
write_waiting-requires g c = record {
  running = said_running (arc_value c.args.setup.now) (g.H.SessionHash.digest_of c.args.hash.now) c.args.self.now.core c.line.new.self _ c.args.self.now.connection
      c.args.self.now.line.items c.in_ok-line.line c.in_ok-_verdict._verdict c.args.self.now.is_first
      (c.in_ok-line.ensures ∙ ap₂ (λ s bytes. prepared_line s (g.H.SessionHash.digest_of c.args.hash.now) zeros bytes) c.deref.ensures c.deref-2.ensures.value)
      c.in_ok-_verdict.ensures.moves c.requires.ready;
}

pub returns-in_err-ended-clause-err : goal.returns-in_err-ended-clause-err
returns-in_err-ended-clause-err g c =
    at_refusal c.from_residual-in_err-ended.result
    (said_short (arc_value c.args.setup.now) (g.H.SessionHash.digest_of c.args.hash.now) c.args.self.now.core c.line.new.self _ c.args.self.now.connection
    c.args.self.now.line.items c.in_ok-line.line c.in_ok-_verdict._verdict c.args.self.now.is_first
    (c.in_ok-line.ensures ∙ ap₂ (λ s bytes. prepared_line s (g.H.SessionHash.digest_of c.args.hash.now) zeros bytes) c.deref.ensures c.deref-2.ensures.value)
    c.in_ok-_verdict.ensures.moves c.write_waiting.new.self.core _ (c.in_err-ended.ensures.err (arc_value c.args.setup.now) (g.H.SessionHash.digest_of c.args.hash.now)))

pub returns-clause-ok : goal.returns-clause-ok
returns-clause-ok g c =
    said_whole (arc_value c.args.setup.now) (g.H.SessionHash.digest_of c.args.hash.now) c.args.self.now.core c.line.new.self _ c.args.self.now.connection
    c.args.self.now.line.items c.in_ok-line.line c.in_ok-_verdict._verdict c.args.self.now.is_first
    (c.in_ok-line.ensures ∙ ap₂ (λ s bytes. prepared_line s (g.H.SessionHash.digest_of c.args.hash.now) zeros bytes) c.deref.ensures c.deref-2.ensures.value)
    c.in_ok-_verdict.ensures.moves c.write_waiting.new.self.core _ c.in_ok-ended.ended
    (c.in_ok-ended.ensures.ok (arc_value c.args.setup.now) (g.H.SessionHash.digest_of c.args.hash.now))

pub returns-in_err-line-clause-writes : goal.returns-in_err-line-clause-writes
returns-in_err-line-clause-writes g c =
    end_by c.from_residual.result Memory (g.W.CountedWrite.failures c.args.writer.now) (g.W.CountedWrite.failures c.args.writer.now) c.from_residual.ensures.1 refl

pub returns-in_err-_verdict-clause-writes : goal.returns-in_err-_verdict-clause-writes
returns-in_err-_verdict-clause-writes g c =
    end_by c.from_residual-in_err-_verdict.result Memory (g.W.CountedWrite.failures c.args.writer.now) (g.W.CountedWrite.failures c.args.writer.now)
    c.from_residual-in_err-_verdict.ensures.1 refl

pub returns-in_err-ended-clause-writes : goal.returns-in_err-ended-clause-writes
returns-in_err-ended-clause-writes g c =
    end_by c.from_residual-in_err-ended.result c.in_err-ended.field-0.0 (g.W.CountedWrite.failures c.args.writer.now) (g.W.CountedWrite.failures c.write_waiting.new.writer)
    c.from_residual-in_err-ended.ensures.1 c.in_err-ended.ensures.writes
