use Rattle.std.proofs.Common.{◌≡◌, ◌++◌, ◌∷◌, [], refl, arith, inl, sym, subst, ap, ◌∙◌, ◌+◌, length, length-append}
use Rattle.server_tasks.proofs.LetGo.{Released, one_released, all_released}
use Rattle.server_tasks.proofs.slots.Slots.release_throttled.Goals as goal

pub loop-place-init : goal.loop-place-init
loop-place-init c = ((λ slot there. inl there, λ slot absent. refl, λ slot there. there, refl, refl), (refl, refl), refl, refl, refl)

pub loop-place-preserved : goal.loop-place-preserved
loop-place-preserved c =
    let held : c.loop-place.self.held.items ≡ c.pop.new.self.items ++ c.in-Some.place ∷ [] = c.in-Some.ensures.items in
    let were : Released c.args.self.now.held.items c.args.self.now.bells (c.pop.new.self.items ++ c.in-Some.place ∷ []) c.loop-place.self.bells =
    subst (λ left. Released c.args.self.now.held.items c.args.self.now.bells left c.loop-place.self.bells) held c.loop-place.invariant.0 in (
      subst (λ left. Released c.args.self.now.held.items c.args.self.now.bells left.items c.release.new.self.bells) (sym c.release.ensures.held)
          (one_released c.args.self.now.held.items c.args.self.now.bells c.loop-place.self.bells c.release.new.self.bells c.pop.new.self.items c.in-Some.place were c.release.ensures.rung c.release.ensures.woken c.release.ensures.others),
      (c.release.ensures.index.0 ∙ c.loop-place.invariant.1.0, c.release.ensures.index.1 ∙ c.loop-place.invariant.1.1),
      c.release.ensures.sight ∙ c.loop-place.invariant.2,
      c.release.ensures.ticks ∙ c.loop-place.invariant.3,
      c.release.ensures.second ∙ c.loop-place.invariant.4,
    )

pub returns-clause-rung : goal.returns-clause-rung
returns-clause-rung c slot there =
    (all_released c.args.self.now.held.items c.args.self.now.bells c.loop-place.self.bells c.loop-place.self.held.items (grind (arith, c.in_default.ensures.cases)) c.loop-place.invariant.0 slot there).0

pub returns-clause-woken : goal.returns-clause-woken
returns-clause-woken c slot there =
    (all_released c.args.self.now.held.items c.args.self.now.bells c.loop-place.self.bells c.loop-place.self.held.items (grind (arith, c.in_default.ensures.cases)) c.loop-place.invariant.0 slot there).1

pub returns-clause-others : goal.returns-clause-others
returns-clause-others c = c.loop-place.invariant.0.1

pub returns-clause-rings : goal.returns-clause-rings
returns-clause-rings c = c.loop-place.invariant.0.3

pub returns-clause-slots : goal.returns-clause-slots
returns-clause-slots c = c.loop-place.invariant.0.4

pub loop-place-smaller : goal.loop-place-smaller
loop-place-smaller c =
    let held : c.loop-place.self.held.items ≡ c.pop.new.self.items ++ c.in-Some.place ∷ [] = c.in-Some.ensures.items in
    let left : c.release.new.self.held.items ≡ c.pop.new.self.items = ap (λ held. held.items) c.release.ensures.held in
    let one_less : length c.release.new.self.held.items + 1 ≡ length c.loop-place.self.held.items =
    ap (λ slots. length slots + 1) left ∙ sym (ap length held ∙ length-append c.pop.new.self.items (c.in-Some.place ∷ [])) in
    omega (arith, one_less)

pub returns-clause-index : goal.returns-clause-index
returns-clause-index c = c.loop-place.invariant.1
