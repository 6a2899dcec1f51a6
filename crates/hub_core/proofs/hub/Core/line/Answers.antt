use Rattle.std.proofs.Common.{◌∙◌, sym, ap, subst}
use Rattle.hub_core.specs.CoreState.{CoreState}
use Rattle.hub_core.specs.Decided.{IsHandled}
use Rattle.hub_core.specs.Phases.{stage_in}
use Rattle.hub_core.specs.Seats.{phase_in, sid_in}
use Rattle.hub_core.specs.TouchedSids.{NamesEffect}
use Rattle.hub_rules.specs.Legal.{verdict_of}
use Rattle.hub_core.proofs.Concerned.{line-touches}
use Rattle.hub_core.proofs.NextHistory.{line-moves}
use Rattle.hub_core.proofs.hub.Core.line.Goals as goal

pub returns : goal.returns
returns c =
    let handled : IsHandled c.args.connection c.args.line.now c.args.now c.args.self.now c.handle.new.self =
    subst (λ n. IsHandled n c.args.line.now c.args.now c.args.self.now c.handle.new.self) c.connection.view_is c.in_ok-verdict.ensures.handled in
    record {
      moves = line-moves c.args.self.now c.handle.new.self c.args.connection c.args.line.now c.args.now handled.decided.seat handled.effect c.in_ok-verdict.verdict handled.touched
          handled.few handled.decided.is_seat handled.decided.decided handled.carried
          (c.in_ok-verdict.ensures.verdict ∙ ap (λ n. verdict_of (stage_in (phase_in n c.handle.new.self.seats))) c.connection.view_is);
      touched = line-touches c.args.self.now c.handle.new.self c.args.connection c.args.line.now c.args.now handled.decided.seat handled.effect
          handled.few handled.decided.is_seat handled.decided.decided
          (subst (λ t. NamesEffect t (sid_in c.args.connection c.args.self.now.seats) handled.effect) (sym (ap (λ (s : CoreState). s.touched) handled.carried)) handled.named);
      err = tt;
    }
