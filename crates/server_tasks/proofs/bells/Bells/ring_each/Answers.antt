use Rattle.std.proofs.Common.{◌≡◌, refl, arith, sym, subst, ◌+◌, ◌≤◌, ◌∙◌, ap, true, None, length}
use Rattle.std.proofs.lemmas.Option.{same_Some}
use Rattle.server_tasks.specs.Bells.{is_unheard}
use Rattle.server_tasks.specs.declared.bells.Bells.{Bells}
use Rattle.server_tasks.proofs.Each.{RungBelow, one_more, one_left_out, all_below}
use Rattle.server_tasks.proofs.bells.Bells.ring_each.Goals as goal
use Rattle.server_tasks.proofs.bells.Bells.ring_each.Goals.{then-slot-own, else-slot-own}

pub loop-slot-init : goal.loop-slot-init
loop-slot-init c = (λ slot ne lt. absurd (omega (arith, lt)), λ slot ne lt. absurd (omega (arith, lt)), refl, refl, refl)

pub loop-slot-preserved : goal.loop-slot-preserved
loop-slot-preserved c =
    let Below : Bells → Type 0 = RungBelow c.args.own c.args.self.now (c.loop-slot.slot + 1) in
    elim c.if-slot-own.branch [
      | then-slot-own w ↦ subst Below (sym w.self-is)
          (one_more c.args.own c.loop-slot.slot c.args.self.now c.loop-slot.self w.ring.new.self c.loop-slot.invariant w.if-slot-own.true w.ring.ensures.rung w.ring.ensures.woken w.ring.ensures.others)
      | else-slot-own w ↦ subst Below (sym w.self-is) (one_left_out c.args.own c.loop-slot.slot c.args.self.now c.loop-slot.self c.loop-slot.invariant w.if-slot-own.false)
    ]

pub returns-clause-rung : goal.returns-clause-rung
returns-clause-rung c =
    let count : length c.loop-slot.self.bells.items ≡ length c.args.self.now.bells.items = c.loop-slot.invariant.4 in
    let le : length c.loop-slot.self.bells.items ≤ c.loop-slot.slot = grind (arith, count, c.len-slot-end.ensures, c.loop-slot-test.false) in
    all_below {P = λ bell. is_unheard c.loop-slot.self.rings bell ≡ true} c.args.own c.loop-slot.slot c.loop-slot.self le c.loop-slot.invariant.0

pub returns-clause-woken : goal.returns-clause-woken
returns-clause-woken c =
    let count : length c.loop-slot.self.bells.items ≡ length c.args.self.now.bells.items = c.loop-slot.invariant.4 in
    let le : length c.loop-slot.self.bells.items ≤ c.loop-slot.slot = grind (arith, count, c.len-slot-end.ensures, c.loop-slot-test.false) in
    all_below {P = λ bell. bell.waker ≡ None} c.args.own c.loop-slot.slot c.loop-slot.self le c.loop-slot.invariant.1

pub returns-clause-own : goal.returns-clause-own
returns-clause-own c was before bell now =
    let same : bell ≡ was = same_Some _ _ (sym now ∙ c.loop-slot.invariant.2 ∙ before) in
    ap (λ n. is_unheard n bell) c.loop-slot.invariant.3 ∙ ap (is_unheard c.args.self.now.rings) same

pub returns-clause-slots : goal.returns-clause-slots
returns-clause-slots c = c.loop-slot.invariant.4
