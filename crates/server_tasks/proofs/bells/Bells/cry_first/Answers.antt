use Rattle.std.proofs.Common.{◌≡◌, ◌<◌, ◌≤◌, ◌-◌, ◌++◌, ◌∷◌, ◌∙◌, [], ℕ, List, arith, sym, subst, ap, drop, take, length, length-append, ◌+◌}
use Rattle.server_tasks.specs.Bells.{AreBells, AreDue}
use Rattle.server_tasks.proofs.Portions.{front_of, gone_are, gone_due, kept_are, kept_due}
use Rattle.server_tasks.proofs.bells.Bells.cry_first.Goals as goal

pub invariant_of-self : goal.invariant_of-self
invariant_of-self c =
    let slot : ℕ = c.index.result.now in
    let rest : List ℕ = drop 1 c.args.self.now.waiting.items in
    let lt : 0 < c.args.self.now.due = c.requires in
    let le : c.args.self.now.due ≤ length c.args.self.now.waiting.items = c.args.self.now.within in
    let front : c.args.self.now.waiting.items ≡ slot ∷ rest = front_of c.args.self.now.waiting.items slot (omega (arith, lt, le)) c.index.ensures in
    let size : length c.args.self.now.waiting.items ≡ length (slot ∷ rest) = ap length front in
    let are : AreBells c.args.self.now.bells.items (slot ∷ rest) c.args.self.now.rings = subst (λ w. AreBells c.args.self.now.bells.items w c.args.self.now.rings) front c.args.self.now.are_bells in
    let due : AreDue c.args.self.now.bells.items (slot ∷ rest) c.args.self.now.due c.args.self.now.rings = subst (λ w. AreDue c.args.self.now.bells.items w c.args.self.now.due c.args.self.now.rings) front c.args.self.now.are_due in
    let after : rest ≡ c.pop_front.new.self.items = sym c.pop_front.ensures.rest in
    record {
      are_bells = subst (λ w. AreBells c.wake_if_rung.new.bells.items w c.args.self.now.rings) after
          (gone_are c.args.self.now.bells.items c.wake_if_rung.new.bells.items slot rest c.args.self.now.rings c.wake_if_rung.ensures.woken
          (λ was got. sym (c.wake_if_rung.ensures.rung was got) ∙ c.if-wake_if_rung.true) are);
      are_due = subst (λ w. AreDue c.wake_if_rung.new.bells.items w (c.args.self.now.due - 1) c.args.self.now.rings) after
          (gone_due c.args.self.now.bells.items c.wake_if_rung.new.bells.items slot rest c.args.self.now.due c.args.self.now.rings c.wake_if_rung.ensures.woken
          (λ was got. sym (c.wake_if_rung.ensures.rung was got) ∙ c.if-wake_if_rung.true) lt due);
      within = subst (λ w. c.args.self.now.due - 1 ≤ length w) after (omega (arith, le, size));
      crier_wakes = λ _. c.args.self.now.crier_wakes lt;
    }

pub invariant_of-self-else-wake_if_rung : goal.invariant_of-self-else-wake_if_rung
invariant_of-self-else-wake_if_rung c =
    let slot : ℕ = c.index.result.now in
    let rest : List ℕ = drop 1 c.args.self.now.waiting.items in
    let lt : 0 < c.args.self.now.due = c.requires in
    let le : c.args.self.now.due ≤ length c.args.self.now.waiting.items = c.args.self.now.within in
    let front : c.args.self.now.waiting.items ≡ slot ∷ rest = front_of c.args.self.now.waiting.items slot (omega (arith, lt, le)) c.index.ensures in
    let size : length c.args.self.now.waiting.items ≡ length (slot ∷ rest) = ap length front in
    let are : AreBells c.args.self.now.bells.items (slot ∷ rest) c.args.self.now.rings = subst (λ w. AreBells c.args.self.now.bells.items w c.args.self.now.rings) front c.args.self.now.are_bells in
    let due : AreDue c.args.self.now.bells.items (slot ∷ rest) c.args.self.now.due c.args.self.now.rings = subst (λ w. AreDue c.args.self.now.bells.items w c.args.self.now.due c.args.self.now.rings) front c.args.self.now.are_due in
    let after : rest ++ slot ∷ [] ≡ c.rotate_left.new.self.items = sym (c.rotate_left.ensures.items ∙ ap (λ w. rest ++ take 1 w) front) in
    let longer : length (rest ++ slot ∷ []) ≡ length rest + 1 = length-append rest (slot ∷ []) in
    record {
      are_bells = subst (λ w. AreBells c.wake_if_rung.new.bells.items w c.args.self.now.rings) after
          (kept_are c.args.self.now.bells.items c.wake_if_rung.new.bells.items slot rest c.args.self.now.rings c.wake_if_rung.ensures.woken
          (λ was got. sym (c.wake_if_rung.ensures.rung was got) ∙ c.if-wake_if_rung.false) are);
      are_due = subst (λ w. AreDue c.wake_if_rung.new.bells.items w (c.args.self.now.due - 1) c.args.self.now.rings) after
          (kept_due c.args.self.now.bells.items c.wake_if_rung.new.bells.items slot rest c.args.self.now.due c.args.self.now.rings c.wake_if_rung.ensures.woken
          (λ was got. sym (c.wake_if_rung.ensures.rung was got) ∙ c.if-wake_if_rung.false) lt (subst (λ w. c.args.self.now.due ≤ length w) front le) due);
      within = subst (λ w. c.args.self.now.due - 1 ≤ length w) after (omega (arith, le, size, longer));
      crier_wakes = λ _. c.args.self.now.crier_wakes lt;
    }
