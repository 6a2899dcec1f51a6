-- The bytes that were searched are the unread ones.
use Rattle.std.proofs.Common.{◌≡◌, ◌-◌, ◌≤◌, length, take, drop, refl, ap, ◌∙◌, take_all, arith}
use Rattle.std.proofs.lemmas.List.{take_rest}
use Rattle.adc_line.proofs.FrameLemmas.{too_long}
use Rattle.adc_line.proofs.framer.Framer.take_line.Goals as goal

pub returns-then-self-gt-MAX_LINE-clause-ok : goal.returns-then-self-gt-MAX_LINE-clause-ok
returns-then-self-gt-MAX_LINE-clause-ok c =
    let seen = take (length c.deref.result.now - c.self.inside.start) (drop c.self.inside.start c.deref.result.now) in
    let unread : seen ≡ c.args.self.now =
    rw take_rest (ap (drop c.self.inside.start) c.deref.ensures.value ∙ c.self.view_is) in
    let more = too_long c.args.self.now seen (length seen) unread (omega arith) (rw (take_all (length seen) seen (omega arith)) c.in_default.ensures.none) c.if-self-gt-MAX_LINE.true in
    (c.self.view_is, refl, more.0, more.1)

pub returns-then-at-gt-MAX_LINE-clause-ok : goal.returns-then-at-gt-MAX_LINE-clause-ok
returns-then-at-gt-MAX_LINE-clause-ok c =
    let seen = take (length c.deref.result.now - c.self.inside.start) (drop c.self.inside.start c.deref.result.now) in
    let unread : seen ≡ c.args.self.now =
    rw take_rest (ap (drop c.self.inside.start) c.deref.ensures.value ∙ c.self.view_is) in
    let within : c.in-Some.at ≤ length seen = omega (arith, c.in-Some.ensures.within) in
    let more = too_long c.args.self.now seen c.in-Some.at unread within c.in-Some.ensures.first c.if-at-gt-MAX_LINE.true in
    (refl, refl, more.0, more.1)
