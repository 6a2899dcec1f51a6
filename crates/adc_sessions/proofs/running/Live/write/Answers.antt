use Rattle.std.proofs.Common.{◌≡◌, ◌-◌, ◌+◌, [], take, drop, length, length-take, ◌<◌, refl, rules, arith, inl, inr}
use Rattle.adc_sessions.specs.declared.ending.End.TheVariants as ends
use Rattle.adc_sessions.specs.State.{state_of, poll_of}
use Rattle.adc_sessions.proofs.Steps.{did_write, did_fail_to_write, written_front, waiting, waits_still}
use Rattle.adc_sessions.proofs.Polls.{one_call, bell_call, ActsBy-append, ends_after, rests_after, did_on_stream, did_on_bell, not_full}
use Rattle.adc_sessions.proofs.running.Live.write.Goals as goal

pub returns-in-Ready-Ok-eq0-clause-turned : goal.returns-in-Ready-Ok-eq0-clause-turned
returns-in-Ready-Ok-eq0-clause-turned g c =
    let before = poll_of c.args.self.now in
    let left = record before { state = record (state_of c.args.self.now) { stream = c.poll_write.new.self } } in
    let moved = rw (c.in-Ready-Ok-eq0.field-0-is, c.in-Ready-Ok-eq0.field-0-0-test) at c.in-Ready-Ok-eq0.ensures.bytes in
    ends_after _ _ _ ends.WriteFailed _ left _
    (did_on_stream _ _ _ before left _
    (did_fail_to_write _ _ _ _ (moved, inl (c.poll_write.ensures.full (let none = c.in-Ready-Ok-eq0.field-0-0-test in cc) (waiting c.args.self.now.output.items c.deref.result.now c.args.self.now.written c.deref.ensures.value c.requires))) refl
    refl refl refl refl refl refl) refl refl refl refl refl refl refl (λ was. tt {0}) (λ was. tt {0}) (λ is. absurd is) refl) ([], refl)

pub returns-in-Ready-Ok-clause-turned : goal.returns-in-Ready-Ok-clause-turned
returns-in-Ready-Ok-clause-turned g c =
    let waits = take (length c.deref.result.now - c.args.self.now.written) (drop c.args.self.now.written c.deref.result.now) in
    let bytes = take c.in-Ready-Ok.count waits in
    let within = rw c.in-Ready-Ok.field-0-is at c.in-Ready-Ok.ensures.bound in
    let so_many : c.in-Ready-Ok.count ≡ length bytes = omega (arith, within, length-take c.in-Ready-Ok.count waits) in
    let some : 0 < c.in-Ready-Ok.count = search rules in
    let before = poll_of c.args.self.now in
    let left = record before {
      state = record (state_of c.args.self.now) {
        stream = c.poll_write.new.self;
        pending = drop (c.args.self.now.written + c.in-Ready-Ok.count) c.args.self.now.output.items;
      };
      untold = 0 + length bytes;
    } in
    ActsBy-append _ _ _ 1 0 before left _
    (one_call _ _ _ before left _
    (did_on_stream _ _ _ before left _
    (did_write _ _ _ _ bytes (rw c.in-Ready-Ok.field-0-is at c.in-Ready-Ok.ensures.bytes) refl refl (written_front c.args.self.now.output.items c.deref.result.now c.args.self.now.written c.in-Ready-Ok.count c.deref.ensures.value)
    refl refl refl refl) refl refl refl refl refl refl (not_full c.args.self.now.is_full bytes (omega (arith, so_many, some))) (λ was. tt {0}) (λ was. tt {0}) (λ is. absurd is) refl) (λ fault. fault))
    (bell_call _ _ _ left _ _ (did_on_bell _ _ _ left _ _ c.wrote.ensures refl refl refl refl refl refl refl (omega (arith, so_many), refl) (tt {0})))

pub returns-in-Ready-Err-clause-turned : goal.returns-in-Ready-Err-clause-turned
returns-in-Ready-Err-clause-turned g c =
    let before = poll_of c.args.self.now in
    let left = record before { state = record (state_of c.args.self.now) { stream = c.poll_write.new.self } } in
    let failed = rw c.in-Ready-Err.field-0-is at c.in-Ready-Err.ensures.failed in
    ends_after _ _ _ ends.WriteFailed _ left _
    (did_on_stream _ _ _ before left _ (did_fail_to_write _ _ _ _ (rw c.in-Ready-Err.field-0-is at c.in-Ready-Err.ensures.bytes, inr (c.in-Ready-Err.field-0-0, failed)) refl refl refl refl refl refl refl) refl refl refl refl refl refl refl (λ was. tt {0}) (λ was. tt {0}) (λ is. absurd is) refl) ([], refl)

pub returns-in-Pending-clause-turned : goal.returns-in-Pending-clause-turned
returns-in-Pending-clause-turned g c =
    rests_after _ _ _ _ _ _ (did_on_stream _ _ _ _ _ _ (did_write _ _ _ _ [] c.in-Pending.ensures.bytes refl refl refl refl refl refl refl) refl refl refl refl refl refl refl (λ was. tt {0}) (λ was. tt {0}) (λ is. absurd is) refl) (λ fault. fault)
    (inl (([], refl), waits_still c.args.self.now.output.items c.args.self.now.written c.requires))
