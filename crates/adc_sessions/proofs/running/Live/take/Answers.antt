use Rattle.std.proofs.Common.{◌++◌, true, false, refl, ap, sym, ◌∙◌}
use Rattle.std.proofs.lemmas.List.{drop_all}
use Rattle.adc_sessions.specs.declared.ending.End.TheVariants as ends
use Rattle.adc_sessions.specs.State.{state_of, poll_of}
use Rattle.adc_sessions.proofs.Steps.{did_take, was_refused}
use Rattle.adc_sessions.proofs.Polls.{one_call, ends_after, did_take_more, did_get_refused}
use Rattle.adc_sessions.proofs.running.Live.take.Goals as goal

pub returns-in-Ok-clause-turned : goal.returns-in-Ok-clause-turned
returns-in-Ok-clause-turned g c =
    let taken = c.in-Ok.ensures.ok in
    let none = drop_all c.args.self.now.written c.args.self.now.output.items c.requires.written in
    one_call _ _ _ _ _ _
    (did_take_more _ _ _ _ _ c.args.self.now.batch taken.0 c.in-Ok.taken
    (did_take _ _ _ _ c.args.self.now.batch taken.0 c.in-Ok.taken taken.2 refl refl (taken.1 ∙ ap (λ front. front ++ taken.0) (c.clear.ensures.items ∙ sym none)) refl refl refl refl none) refl refl refl refl refl refl refl refl c.requires.heard
    c.requires.turns c.requires.wanted) (λ fault. fault)

pub returns-in-Err-clause-turned : goal.returns-in-Err-clause-turned
returns-in-Err-clause-turned g c =
    let before = poll_of c.args.self.now in
    let left = record before { state = record (state_of c.args.self.now) { port = c.take.new.self; owes = true }; fresh = false } in
    let none = drop_all c.args.self.now.written c.args.self.now.output.items c.requires.written in
    ends_after _ _ _ ends.Memory _ left _ (did_get_refused _ _ _ before left (was_refused _ _ _ _ c.in-Err.ensures.err.1 refl refl refl refl refl refl refl none) refl refl refl refl refl refl refl refl) (tt {0})
