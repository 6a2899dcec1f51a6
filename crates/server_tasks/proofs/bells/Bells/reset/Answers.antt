use Rattle.std.proofs.Common.{◌≡◌, refl, arith, slice_get, length-set, false, None, Some}
use Rattle.std.proofs.lemmas.Option.{slice_get_read}
use Rattle.server_tasks.proofs.Heard.{heard_all}
use Rattle.server_tasks.proofs.Indexes.{each_set, at_set, get_set_other, nothing_past}
use Rattle.server_tasks.proofs.bells.Bells.reset.Goals as goal

pub invariant_of-self : goal.invariant_of-self
invariant_of-self c =
    let here : slice_get c.args.self.now.bells.items c.args.slot ≡ Some c.in-Some.bell.now = slice_get_read c.args.self.now.bells.items _ c.args.slot c.in-Some.bell.now refl (grind (arith, c.in-Some.ensures.variant)) c.in-Some.ensures.value in
    let was : _ = c.args.self.now.are_bells _ _ here in
    record {
      are_bells = each_set _ _ _ _ c.args.self.now.are_bells (was.0, λ no. grind (arith, no), omega arith);
      are_due = each_set _ _ _ _ c.args.self.now.are_due (λ no _. absurd (grind (arith, no)));
      within = c.args.self.now.within;
      crier_wakes = c.args.self.now.crier_wakes;
    }

pub returns-in-Some-clause-heard : goal.returns-in-Some-clause-heard
returns-in-Some-clause-heard c = at_set _ c.args.self.now.bells.items c.args.slot (record c.in-Some.bell.now { heard = c.args.self.now.rings; is_called = false; waker = None }) (heard_all _)

pub returns-in-Some-clause-woken : goal.returns-in-Some-clause-woken
returns-in-Some-clause-woken c = at_set _ c.args.self.now.bells.items c.args.slot (record c.in-Some.bell.now { heard = c.args.self.now.rings; is_called = false; waker = None }) refl

pub returns-in-Some-clause-others : goal.returns-in-Some-clause-others
returns-in-Some-clause-others c = (refl, length-set c.args.self.now.bells.items c.args.slot (record c.in-Some.bell.now { heard = c.args.self.now.rings; is_called = false; waker = None }), get_set_other c.args.self.now.bells.items c.args.slot (record c.in-Some.bell.now { heard = c.args.self.now.rings; is_called = false; waker = None }))

pub returns-in_default-clause-heard : goal.returns-in_default-clause-heard
returns-in_default-clause-heard c = nothing_past _ c.args.self.now.bells.items c.args.slot (grind (arith, c.in_default.ensures.variant))

pub returns-in_default-clause-woken : goal.returns-in_default-clause-woken
returns-in_default-clause-woken c = nothing_past _ c.args.self.now.bells.items c.args.slot (grind (arith, c.in_default.ensures.variant))
