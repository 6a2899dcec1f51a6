use Rattle.std.proofs.Common.{◌++◌, [], take, refl, sym, inl, inr, arith, append-nil, false}
use Rattle.std.proofs.lemmas.List.{with_items_is, drop_all}
use Rattle.std.proofs.lemmas.Grind.{common_steps}
use Rattle.adc_sessions.specs.declared.ending.End.TheVariants as ends
use Rattle.adc_sessions.specs.State.{state_of, poll_of}
use Rattle.adc_sessions.proofs.Steps.{did_read, did_meet_end, did_fail_to_read}
use Rattle.adc_sessions.proofs.Polls.{one_call, ends_after, rests_after, did_seek}
use Rattle.adc_sessions.proofs.running.Live.read.Goals as goal

pub returns-in-Ready-Ok-eq0-clause-turned : goal.returns-in-Ready-Ok-eq0-clause-turned
returns-in-Ready-Ok-eq0-clause-turned g c =
    let moved = rw (c.in-Ready-Ok-eq0.field-0-is, c.in-Ready-Ok-eq0.field-0-0-test) at c.in-Ready-Ok-eq0.ensures.bytes in
    one_call _ _ _ _ _ _
    (did_seek _ _ _ _ _ _
    (did_meet_end _ _ _ _ (moved, c.poll_read.ensures.end (let none = c.in-Ready-Ok-eq0.field-0-0-test in cc) (omega (arith, c.args.self.now.has_room))) refl refl refl refl refl refl refl c.requires.heard) refl refl refl refl refl refl refl refl c.requires.taken c.requires.free c.requires.no_line c.requires.goes_on) (λ fault. fault)

pub returns-in-Ok-clause-turned : goal.returns-in-Ok-clause-turned
returns-in-Ok-clause-turned g c =
    rw c.widen.ensures.state
    (one_call _ _ _ _ _ _
    (did_seek _ _ _ _ _ _
    (did_read _ _ _ _ (take c.in-Ready-Ok.count c.poll_read.new.buf) (rw c.in-Ready-Ok.field-0-is at c.in-Ready-Ok.ensures.bytes) refl (grind (arith, common_steps, with_items_is)) refl refl refl refl refl c.requires.heard
    (grind (arith, common_steps, with_items_is, c.args.self.now.reads_few))) refl refl refl refl refl refl refl refl c.requires.taken c.requires.free c.requires.no_line c.requires.goes_on) (λ fault. fault))

pub returns-in-Err-clause-turned : goal.returns-in-Err-clause-turned
returns-in-Err-clause-turned g c =
    let bytes = take c.in-Ready-Ok.count c.poll_read.new.buf in
    let before = poll_of c.args.self.now in
    let left = record before { state = record (state_of c.args.self.now) { stream = c.poll_read.new.self; unread = c.args.self.now.framer ++ bytes }; reads_next = false } in
    ends_after _ _ _ ends.Memory _ left _
    (did_seek _ _ _ before left _
    (did_read _ _ _ _ bytes (rw c.in-Ready-Ok.field-0-is at c.in-Ready-Ok.ensures.bytes) refl refl refl refl refl refl refl c.requires.heard (grind (arith, common_steps, with_items_is, c.args.self.now.reads_few))) refl refl refl refl refl refl refl refl c.requires.taken c.requires.free c.requires.no_line c.requires.goes_on) (tt {0})

pub returns-in-Ready-Err-clause-turned : goal.returns-in-Ready-Err-clause-turned
returns-in-Ready-Err-clause-turned g c =
    let before = poll_of c.args.self.now in
    let left = record before { state = record (state_of c.args.self.now) { stream = c.poll_read.new.self }; reads_next = false } in
    let failed = rw c.in-Ready-Err.field-0-is at c.in-Ready-Err.ensures.failed in
    ends_after _ _ _ ends.ReadFailed _ left _
    (did_seek _ _ _ before left _ (did_fail_to_read _ _ _ _ (rw c.in-Ready-Err.field-0-is at c.in-Ready-Err.ensures.bytes, (c.in-Ready-Err.field-0-0, failed)) refl refl refl refl refl refl refl c.requires.heard) refl refl refl refl refl refl refl refl c.requires.taken c.requires.free c.requires.no_line c.requires.goes_on) (c.requires.no_line, ([], refl))

pub returns-then-may_rest-clause-turned : goal.returns-then-may_rest-clause-turned
returns-then-may_rest-clause-turned g c =
    let rests = c.may_rest.ensures c.if-may_rest.true in
    let none = drop_all c.args.self.now.written c.args.self.now.output.items c.requires.written in
    rests_after _ _ _ _ _ _
    (did_seek _ _ _ _ _ _ (did_read _ _ _ _ [] c.in-Pending.ensures.bytes refl (sym (append-nil _)) refl refl refl refl refl c.requires.heard (omega arith)) refl refl refl refl refl refl refl refl c.requires.taken c.requires.free c.requires.no_line c.requires.goes_on) (λ fault. fault)
    (inr (none, rests.1, c.requires.taken, rests.0, inl ([], refl)))

pub returns-else-may_rest-clause-turned : goal.returns-else-may_rest-clause-turned
returns-else-may_rest-clause-turned g c =
    one_call _ _ _ _ _ _
    (did_seek _ _ _ _ _ _ (did_read _ _ _ _ [] c.in-Pending.ensures.bytes refl (sym (append-nil _)) refl refl refl refl refl c.requires.heard (omega arith)) refl refl refl refl refl refl refl refl c.requires.taken c.requires.free c.requires.no_line c.requires.goes_on) (λ fault. fault)
