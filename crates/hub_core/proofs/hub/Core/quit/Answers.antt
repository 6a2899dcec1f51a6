use Rattle.std.proofs.Common.{◌∙◌, sym, ap, subst, ◌≤◌}
use Rattle.hub_core.specs.declared.share.Touched.{Touched}
use Rattle.hub_core.specs.CoreState.{CoreState, noted}
use Rattle.hub_core.specs.Departures.{left_core}
use Rattle.hub_core.specs.Phases.{stage_in}
use Rattle.hub_core.specs.TouchedSids.{names}
use Rattle.hub_core.proofs.Concerned.{quit-touches}
use Rattle.hub_core.proofs.Places.{at-core, phase-at}
use Rattle.hub_core.proofs.NextHistory.{quit-moves}
use Rattle.hub_core.proofs.hub.Core.quit.Goals as goal
use Rattle.hub_rules.specs.Configured.{most_users}
use Rattle.hub_rules.specs.Effects.{is_present}

pub returns : goal.returns
returns c =
    let touched : Touched = c.touched_by_quit-touched.result in
    let at = at-core c.args.self.now.seats c.args.connection c.connection.inside.number c.self.inside.seats.items c.deref.result.now c.place-place.result c.index.result.now
    c.deref.ensures.value (ap (λ (s : CoreState). s.seats) c.self.view_is) c.connection.view_is c.place-place.ensures c.index.ensures in
    record {
      moves = quit-moves _ _ _ touched (subst (λ (s : CoreState). s.setup.plain.max_users ≤ most_users) c.self.view_is c.self.invariant.0)
          (c.note.ensures ∙ ap (noted touched) (c.leave.ensures ∙ ap (λ n. left_core n c.args.self.now) c.connection.view_is));
      touched = quit-touches c.args.self.now c.note.new.self c.args.connection
          (λ here sid. ap (λ (s : CoreState). names s.touched sid) c.note.ensures
          ∙ c.touched_by_quit-touched.ensures (sym (ap (λ p. is_present (stage_in p)) (phase-at c.args.connection c.args.self.now.seats c.place-place.result c.index.result.now at.0 at.1)) ∙ here) sid);
    }
