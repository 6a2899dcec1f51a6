use Rattle.std.proofs.Common.{◌≡◌, ◌∙◌, sym, ap, subst}
use Rattle.hub_rules.specs.Configured.{Configured}
use Rattle.hub_rules.specs.Views.{HubView}
use Rattle.hub_core.specs.CoreState.{CoreState}
use Rattle.hub_core.specs.Decided.{Decided, sight_in}
use Rattle.hub_core.specs.Seats.{in_seat}
use Rattle.hub_core.proofs.Places.{StandsFirst, found-alike, seat-at}
use Rattle.hub_core.proofs.hub.Core.decide.Goals as goal

pub returns : goal.returns
returns c =
    let seats : c.args.self.now.seats ≡ c.self.inside.seats.items = sym (ap (λ (s : CoreState). s.seats) c.self.view_is) in
    let at : StandsFirst c.args.number c.self.inside.seats.items c.args.place = found-alike c.args.number c.self.inside.seats.items c.args.self.now.seats c.args.place seats c.requires in
    record {
      seat = c.index.result.now;
      is_seat = seat-at c.args.number c.self.inside.seats.items c.args.place c.index.result.now at c.index.ensures
          ∙ ap (λ (s : CoreState). in_seat c.args.number (λ x. x) c.index.result.now s.seats) c.self.view_is;
      decided = subst (λ (hub : HubView). Decided hub c.index.result.now c.args.line.now c.args.now c.in_ok-effect.effect)
          (ap (λ (s : Configured). record { setup = s; users = c.self.inside.commons.present.users; bans = c.self.inside.commons.bans; topic = c.self.inside.commons.topic }) c.deref.ensures
          ∙ ap sight_in c.self.view_is) c.in_ok-effect.ensures;
    }
