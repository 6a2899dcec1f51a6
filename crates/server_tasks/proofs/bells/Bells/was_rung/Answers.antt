use Rattle.std.proofs.Common.{◌≡◌, ◌≤◌, length, true, false, refl, arith, slice_get, length-set, Some, IsTrue}
use Rattle.std.proofs.lemmas.Option.{slice_get_read}
use Rattle.server_tasks.specs.Bells.{AreBells, AreDue, is_among, is_unheard}
use Rattle.server_tasks.proofs.Heard.{heard_all, grown, quiet}
use Rattle.server_tasks.proofs.Portions.{due_grown}
use Rattle.server_tasks.proofs.Indexes.{each_set, at_set, get_set_other, only_there}
use Rattle.server_tasks.proofs.bells.Bells.was_rung.Goals as goal

pub invariant_of-self-then-bell : goal.invariant_of-self-then-bell
invariant_of-self-then-bell c =
    let here : slice_get c.args.self.now.bells.items c.args.slot ≡ Some c.in-Some.bell.now = slice_get_read c.args.self.now.bells.items _ c.args.slot c.in-Some.bell.now refl (grind (arith, c.in-Some.ensures.variant)) c.in-Some.ensures.value in
    let was : _ = c.args.self.now.are_bells _ _ here in
    record {
      are_bells = each_set _ _ _ _ c.args.self.now.are_bells (was.0, was.1, omega arith);
      are_due = each_set _ _ _ _ c.args.self.now.are_due (λ _ unheard. absurd (grind (arith, unheard, heard_all c.args.self.now.rings)));
      within = c.args.self.now.within;
      crier_wakes = c.args.self.now.crier_wakes;
    }

pub returns-then-bell-clause-heard : goal.returns-then-bell-clause-heard
returns-then-bell-clause-heard c = at_set _ c.args.self.now.bells.items c.args.slot (record c.in-Some.bell.now { heard = c.args.self.now.rings; is_called = false }) (heard_all _)

pub returns-then-bell-clause-others : goal.returns-then-bell-clause-others
returns-then-bell-clause-others c = (refl, length-set c.args.self.now.bells.items c.args.slot (record c.in-Some.bell.now { heard = c.args.self.now.rings; is_called = false }), get_set_other c.args.self.now.bells.items c.args.slot (record c.in-Some.bell.now { heard = c.args.self.now.rings; is_called = false }))

pub put_among-requires : goal.put_among-requires
put_among-requires c waits =
    let here : slice_get c.args.self.now.bells.items c.args.slot ≡ Some c.in-Some.bell.now = slice_get_read c.args.self.now.bells.items _ c.args.slot c.in-Some.bell.now refl (grind (arith, c.in-Some.ensures.variant)) c.in-Some.ensures.value in
    (c.args.self.now.are_bells _ _ here).0 (grind (arith, waits))

pub invariant_of-self-then-not-put_among : goal.invariant_of-self-then-not-put_among
invariant_of-self-then-not-put_among c =
    let here : slice_get c.args.self.now.bells.items c.args.slot ≡ Some c.in-Some.bell.now = slice_get_read c.args.self.now.bells.items _ c.args.slot c.in-Some.bell.now refl (grind (arith, c.in-Some.ensures.variant)) c.in-Some.ensures.value in
    let more : AreBells c.args.self.now.bells.items c.put_among.new.slots.items c.args.self.now.rings = grown _ _ _ _ c.if-not-put_among.ensures.others c.args.self.now.are_bells in
    let due : AreDue c.args.self.now.bells.items c.put_among.new.slots.items c.args.self.now.due c.args.self.now.rings = due_grown _ _ _ _ _ (c.if-not-put_among.ensures.first _ c.args.self.now.within) c.args.self.now.are_due in
    let longer : length c.args.self.now.waiting.items ≤ length c.put_among.new.slots.items = c.if-not-put_among.ensures.length in
    let le : c.args.self.now.due ≤ length c.args.self.now.waiting.items = c.args.self.now.within in
    record {
      are_bells = each_set _ _ _ _ more (more _ _ here);
      are_due = each_set _ _ _ _ due (due _ _ here);
      within = omega (arith, le, longer);
      crier_wakes = c.args.self.now.crier_wakes;
    }

pub returns-then-not-put_among-clause-heard : goal.returns-then-not-put_among-clause-heard
returns-then-not-put_among-clause-heard c = at_set _ c.args.self.now.bells.items c.args.slot c.in-Some.bell.now (quiet _ c.in-Some.bell.now c.if-bell.false c.if-bell-self.false)

pub returns-then-not-put_among-clause-others : goal.returns-then-not-put_among-clause-others
returns-then-not-put_among-clause-others c = (refl, length-set c.args.self.now.bells.items c.args.slot c.in-Some.bell.now, get_set_other c.args.self.now.bells.items c.args.slot c.in-Some.bell.now)

pub invariant_of-self-2 : goal.invariant_of-self-2
invariant_of-self-2 c =
    let here : slice_get c.args.self.now.bells.items c.args.slot ≡ Some c.in-Some.bell.now = slice_get_read c.args.self.now.bells.items _ c.args.slot c.in-Some.bell.now refl (grind (arith, c.in-Some.ensures.variant)) c.in-Some.ensures.value in
    let more : AreBells c.args.self.now.bells.items c.put_among.new.slots.items c.args.self.now.rings = grown _ _ _ _ c.if-not-put_among.ensures.others c.args.self.now.are_bells in
    let there : IsTrue (is_among c.args.slot c.put_among.new.slots.items) = c.if-not-put_among.ensures.there refl in
    let due : AreDue c.args.self.now.bells.items c.put_among.new.slots.items c.args.self.now.due c.args.self.now.rings = due_grown _ _ _ _ _ (c.if-not-put_among.ensures.first _ c.args.self.now.within) c.args.self.now.are_due in
    let longer : length c.args.self.now.waiting.items ≤ length c.put_among.new.slots.items = c.if-not-put_among.ensures.length in
    let le : c.args.self.now.due ≤ length c.args.self.now.waiting.items = c.args.self.now.within in
    let heard : is_unheard c.args.self.now.rings c.in-Some.bell.now ≡ false = quiet _ c.in-Some.bell.now c.if-bell.false c.if-bell-self.false in
    record {
      are_bells = each_set _ _ _ _ more (λ _. there, λ _. there, (more _ _ here).2);
      are_due = each_set _ _ _ _ due (λ _ unheard. absurd (grind (arith, unheard, heard)));
      within = omega (arith, le, longer);
      crier_wakes = c.args.self.now.crier_wakes;
    }

pub returns-clause-seen : goal.returns-clause-seen
returns-clause-seen c _ =
    let here : slice_get c.args.self.now.bells.items c.args.slot ≡ Some c.in-Some.bell.now = slice_get_read c.args.self.now.bells.items _ c.args.slot c.in-Some.bell.now refl (grind (arith, c.in-Some.ensures.variant)) c.in-Some.ensures.value in
    only_there _ c.args.self.now.bells.items c.args.slot c.in-Some.bell.now here (quiet _ c.in-Some.bell.now c.if-bell.false c.if-bell-self.false)

pub returns-clause-heard : goal.returns-clause-heard
returns-clause-heard c = at_set _ c.args.self.now.bells.items c.args.slot (record c.in-Some.bell.now { waker = c.register.new.slot; waits = true }) (quiet _ (record c.in-Some.bell.now { waker = c.register.new.slot; waits = true }) c.if-bell.false c.if-bell-self.false)

pub returns-clause-rests : goal.returns-clause-rests
returns-clause-rests c _ = at_set _ c.args.self.now.bells.items c.args.slot (record c.in-Some.bell.now { waker = c.register.new.slot; waits = true }) (c.register.ensures.left, c.if-not-put_among.ensures.there refl)

pub returns-clause-others : goal.returns-clause-others
returns-clause-others c = (refl, length-set c.args.self.now.bells.items c.args.slot (record c.in-Some.bell.now { waker = c.register.new.slot; waits = true }), get_set_other c.args.self.now.bells.items c.args.slot (record c.in-Some.bell.now { waker = c.register.new.slot; waits = true }))
