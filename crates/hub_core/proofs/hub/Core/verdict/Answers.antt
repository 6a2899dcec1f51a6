use Rattle.std.proofs.Common.{◌≡◌, ◌∙◌, sym, ap}
use Rattle.hub_core.specs.CoreState.{CoreState}
use Rattle.hub_core.specs.Phases.{stage_in}
use Rattle.hub_core.specs.Seats.{phase_in}
use Rattle.hub_core.proofs.Places.{StandsFirst, found-alike, phase-at}
use Rattle.hub_rules.specs.Legal.{verdict_of}
use Rattle.hub_core.proofs.hub.Core.verdict.Goals as goal

pub returns : goal.returns
returns c =
    let seats : c.args.self.now.seats ≡ c.self.inside.seats.items = sym (ap (λ (s : CoreState). s.seats) c.self.view_is) in
    let at : StandsFirst c.args.number c.self.inside.seats.items c.args.place = found-alike c.args.number c.self.inside.seats.items c.args.self.now.seats c.args.place seats c.requires in
    c.verdict.ensures
    ∙ ap (λ p. verdict_of (stage_in p)) (sym (phase-at c.args.number c.self.inside.seats.items c.args.place c.index.result.now at c.index.ensures))
    ∙ ap (λ (s : CoreState). verdict_of (stage_in (phase_in c.args.number s.seats))) c.self.view_is
