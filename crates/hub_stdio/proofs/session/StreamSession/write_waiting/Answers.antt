use Rattle.std.proofs.Common.{◌<◌, ◌∙◌, refl, subst, arith, List, ℕ}
use Rattle.std.specs.Io.KnownBytes.{Appends}
use Rattle.counted_io.specs.Parts.{AppendsFront}
use Rattle.counted_io.proofs.Failing.{last-after}
use Rattle.hub_stdio.specs.declared.fault.RunFault.TheVariants.{Memory}
use Rattle.hub_stdio.proofs.Failing.{end_by}
use Rattle.hub_stdio.proofs.Refusals.{at_refusal}
use Rattle.hub_stdio.proofs.Takes.{takes-none, takes_running, running_seated, takes_short, takes-more, takes-all, takes-part, fewer_wait, only_appended}
use Rattle.hub_stdio.proofs.session.StreamSession.write_waiting.Goals as goal

pub loop-taken-init : goal.loop-taken-init
loop-taken-init g c = record { takes = takes-none _ _; framer = refl; writes = refl }

pub take-requires-clause-seated : goal.take-requires-clause-seated
take-requires-clause-seated g c =
    running_seated _ _ _ c.loop-taken.self.is_first (takes_running _ _ _ _ c.requires.running c.loop-taken.invariant.takes)

pub returns-in_err-taken-clause-err : goal.returns-in_err-taken-clause-err
returns-in_err-taken-clause-err g c = at_refusal c.from_residual.result (takes_short _ _ _ _ c.loop-taken.invariant.takes)

pub returns-in_default-clause-err : goal.returns-in_default-clause-err
returns-in_default-clause-err g c =
    let m = c.in_ok-taken.ensures.moves in
    let same = only_appended c.clear.new.self.items c.take.new.out.items c.deref.result.now m.0 c.clear.ensures.items m.1 c.deref.ensures.value in
    let wrote = subst (λ (xs : List ℕ). AppendsFront (g.W.Write.contents c.loop-taken.writer) (g.W.Write.contents c.write_and_flush_counted.new.writer) xs) same c.in_default.ensures.err in
    takes-part _ c.loop-taken.self.core c.take.new.self _ _ _ c.loop-taken.self.connection 256 m.0 c.in_ok-taken.taken.lines c.in_ok-taken.taken.ended
    c.loop-taken.self.is_first c.loop-taken.invariant.takes m.2 wrote

pub returns-then-taken-clause-ok : goal.returns-then-taken-clause-ok
returns-then-taken-clause-ok g c =
    let m = c.in_ok-taken.ensures.moves in
    let same = only_appended c.clear.new.self.items c.take.new.out.items c.deref.result.now m.0 c.clear.ensures.items m.1 c.deref.ensures.value in
    let wrote = subst (λ (xs : List ℕ). Appends (g.W.Write.contents c.loop-taken.writer) (g.W.Write.contents c.write_and_flush_counted.new.writer) xs) same c.in-Ok.ensures.ok in
    takes-all _ c.loop-taken.self.core c.take.new.self _ _ _ c.loop-taken.self.connection 256 m.0 c.in_ok-taken.taken.lines c.in_ok-taken.taken.ended
    c.loop-taken.self.is_first c.loop-taken.invariant.takes m.2 wrote c.if-taken.true

pub loop-taken-smaller : goal.loop-taken-smaller
loop-taken-smaller g c =
    let m = c.in_ok-taken.ensures.moves in
    let some : 0 < c.in_ok-taken.taken.lines = omega (arith, c.if-taken.false) in
    fewer_wait c.loop-taken.self.core c.take.new.self _ c.loop-taken.self.connection 256 m.0 c.in_ok-taken.taken.lines c.in_ok-taken.taken.ended
    c.loop-taken.self.is_first (takes_running _ _ _ _ c.requires.running c.loop-taken.invariant.takes) m.2 some

pub loop-taken-preserved : goal.loop-taken-preserved
loop-taken-preserved g c =
    let m = c.in_ok-taken.ensures.moves in
    let same = only_appended c.clear.new.self.items c.take.new.out.items c.deref.result.now m.0 c.clear.ensures.items m.1 c.deref.ensures.value in
    let wrote = subst (λ (xs : List ℕ). Appends (g.W.Write.contents c.loop-taken.writer) (g.W.Write.contents c.write_and_flush_counted.new.writer) xs) same c.in-Ok.ensures.ok in
    record {
      takes = takes-more _ c.loop-taken.self.core c.take.new.self _ _ _ c.loop-taken.self.connection 256 m.0 c.in_ok-taken.taken.lines c.in_ok-taken.taken.ended
          c.loop-taken.self.is_first c.loop-taken.invariant.takes m.2 wrote;
      framer = c.loop-taken.invariant.framer;
      writes = c.in-Ok.ensures.counts ∙ c.loop-taken.invariant.writes;
    }

pub returns-in_err-taken-clause-writes : goal.returns-in_err-taken-clause-writes
returns-in_err-taken-clause-writes g c =
    end_by c.from_residual.result Memory (g.W.CountedWrite.failures c.args.writer.now) (g.W.CountedWrite.failures c.loop-taken.writer) c.from_residual.ensures.1 c.loop-taken.invariant.writes

pub returns-in_default-clause-writes : goal.returns-in_default-clause-writes
returns-in_default-clause-writes g c =
    last-after (g.W.CountedWrite.failures c.args.writer.now) (g.W.CountedWrite.failures c.loop-taken.writer) _ c.loop-taken.invariant.writes c.in_default.ensures.counts

pub returns-then-taken-clause-writes : goal.returns-then-taken-clause-writes
returns-then-taken-clause-writes g c = c.in-Ok.ensures.counts ∙ c.loop-taken.invariant.writes
