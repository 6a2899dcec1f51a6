use Rattle.std.proofs.Common.{true, refl}
use Rattle.std.proofs.lemmas.List.{drop_all}
use Rattle.adc_sessions.specs.declared.ending.End.TheVariants as ends
use Rattle.hub_rules.specs.declared.history.Verdict.TheVariants as verdicts
use Rattle.adc_sessions.specs.State.{poll_of, with_line}
use Rattle.adc_sessions.proofs.Steps.{did_hand, was_refused}
use Rattle.adc_sessions.proofs.Polls.{one_call, ends_after, did_hand_over, did_get_refused}
use Rattle.adc_sessions.proofs.running.Live.hand.Goals as goal

pub returns-in-Ok-Kept-clause-turned : goal.returns-in-Ok-Kept-clause-turned
returns-in-Ok-Kept-clause-turned g c =
    let none = drop_all c.args.self.now.written c.args.self.now.output.items c.requires.written in
    let line = c.args.self.now.line.items in
    one_call _ _ _ _ _ _
    (did_hand_over _ _ _ _ _ line verdicts.Kept
    (did_hand _ _ _ _ line verdicts.Kept (rw (c.deref.ensures.value, c.in-Ok-Kept.field-0-is) at c.in-Ok-Kept.ensures.ok) refl refl c.requires.is_line refl refl refl refl refl none c.requires.heard) refl c.requires.taken refl refl
    refl refl refl refl c.requires.taken c.requires.free) (λ fault. fault)

pub returns-in-Ok-Ended-clause-turned : goal.returns-in-Ok-Ended-clause-turned
returns-in-Ok-Ended-clause-turned g c =
    let none = drop_all c.args.self.now.written c.args.self.now.output.items c.requires.written in
    let line = c.args.self.now.line.items in
    one_call _ _ _ _ _ _
    (did_hand_over _ _ _ _ _ line verdicts.Ended
    (did_hand _ _ _ _ line verdicts.Ended (rw (c.deref.ensures.value, c.in-Ok-Ended.field-0-is) at c.in-Ok-Ended.ensures.ok) refl refl c.requires.is_line refl refl refl refl refl none c.requires.heard) refl c.requires.taken refl refl
    refl refl refl refl c.requires.taken c.requires.free) (λ fault. fault)

pub returns-in-Err-clause-turned : goal.returns-in-Err-clause-turned
returns-in-Err-clause-turned g c =
    let before = with_line c.args.self.now.line.items (poll_of c.args.self.now) in
    let left = record before { state = record before.state { port = c.line.new.self; owes = true } } in
    let none = drop_all c.args.self.now.written c.args.self.now.output.items c.requires.written in
    ends_after _ _ _ ends.Memory _ left _ (did_get_refused _ _ _ _ left (was_refused _ _ _ _ c.in-Err.ensures.err refl refl refl refl refl refl refl none) refl c.requires.taken refl refl refl refl refl refl) (tt {0})
