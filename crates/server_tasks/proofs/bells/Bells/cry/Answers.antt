use Rattle.std.proofs.Common.{◌≡◌, ◌-◌, ◌∙◌, true, arith, inl, refl}
use Rattle.server_tasks.proofs.Portions.{awake_or_due, hears_still, woken_again}
use Rattle.server_tasks.proofs.bells.Bells.cry.Goals as goal

pub loop-portion-init : goal.loop-portion-init
loop-portion-init c = ((λ slot was got. inl got), omega arith, refl, refl)

pub loop-portion-preserved : goal.loop-portion-preserved
loop-portion-preserved c =
    let was : c.loop-portion.self.due ≡ c.args.self.now.due - c.loop-portion._portion = c.loop-portion.invariant.1 in
    let less : c.cry_first.new.self.due ≡ c.loop-portion.self.due - 1 = c.cry_first.ensures.due in (
      (λ slot. woken_again c.args.self.now c.loop-portion.self c.cry_first.new.self slot (c.loop-portion.invariant.0 slot) (c.cry_first.ensures.each slot) c.loop-portion.invariant.2),
      omega (arith, was, less),
      c.cry_first.ensures.rings ∙ c.loop-portion.invariant.2,
      c.cry_first.ensures.slots ∙ c.loop-portion.invariant.3,
    )

pub returns-clause-woken : goal.returns-clause-woken
returns-clause-woken c slot rung =
    awake_or_due c.loop-portion.self slot c.loop-portion.self.are_due
    (hears_still c.args.self.now c.loop-portion.self slot true (c.loop-portion.invariant.0 slot) c.loop-portion.invariant.2 c.loop-portion.invariant.3 rung)
