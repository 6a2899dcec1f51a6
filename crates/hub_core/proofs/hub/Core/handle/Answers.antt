use Rattle.std.proofs.Common.{◌∙◌, sym, ap, subst, ◌≤◌}
use Rattle.hub_core.specs.CoreState.{CoreState, noted}
use Rattle.hub_core.specs.Seats.{sid_in}
use Rattle.hub_core.specs.State.{IsPlace}
use Rattle.hub_core.specs.TouchedSids.{NamesEffect}
use Rattle.hub_core.proofs.Numbers.{place-carried}
use Rattle.hub_core.proofs.Places.{sid-at, stands_first}
use Rattle.hub_core.proofs.hub.Core.handle.Goals as goal
use Rattle.hub_rules.specs.Configured.{most_users}

pub verdict-verdict-requires : goal.verdict-verdict-requires
verdict-verdict-requires c =
    subst (λ (s : CoreState). IsPlace c.args.number c.place-place.result s.seats) (sym (c.note.ensures ∙ ap (noted c.touched_by_line-touched.result) c.in_ok-carry_out.ensures.ok))
    (place-carried c.args.number c.place-place.result c.in_ok-effect.effect c.args.self.now
    (subst (λ seats. IsPlace c.args.number c.place-place.result seats) (c.deref.ensures.value ∙ ap (λ (s : CoreState). s.seats) c.self.view_is) c.place-place.ensures))

pub returns-clause-handled : goal.returns-clause-handled
returns-clause-handled c = record {
  effect = c.in_ok-effect.effect;
  decided = c.in_ok-effect.ensures;
  touched = c.touched_by_line-touched.result;
  carried = c.note.ensures ∙ ap (noted c.touched_by_line-touched.result) c.in_ok-carry_out.ensures.ok;
  named = subst (λ sid. NamesEffect c.touched_by_line-touched.result sid c.in_ok-effect.effect)
      (sym (sid-at c.args.number c.self.inside.seats.items c.place-place.result c.index.result.now
      (stands_first c.args.number c.self.inside.seats.items c.place-place.result (subst (IsPlace c.args.number c.place-place.result) c.deref.ensures.value c.place-place.ensures))
      c.index.ensures)
      ∙ ap (λ (s : CoreState). sid_in c.args.number s.seats) c.self.view_is)
      c.touched_by_line-touched.ensures;
  few = subst (λ (s : CoreState). s.setup.plain.max_users ≤ most_users) c.self.view_is c.self.invariant.0;
}
