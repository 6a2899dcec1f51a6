use Rattle.std.proofs.Common.{sym, ◌∙◌, subst}
use Rattle.std.specs.Arc.{arc_value}
use Rattle.std.specs.Vec.{vec_capacity}
use Rattle.std.specs.Vec.Iter.{into_iter_items}
use Rattle.hub_core.proofs.CallRuns.{AreUnderWay, none-left, room-left, run-end, run-step}
use Rattle.hub_core.proofs.calls.run_calls.Goals as goal

pub loop-asked-preserved : goal.loop-asked-preserved
loop-asked-preserved c =
    let now = c.loop-asked.core in
    let next = c.make-answer.new.core in
    let all = c.args.calls.items in
    let done = c.loop-asked.answers.items in
    let rest = into_iter_items c.next.new.self in
    let first = c.in-Some.ensures.steps.0 in
    let pushed = rw c.unwrap.ensures at c.push.ensures.items in (
      (λ hash. rw pushed
          (run-step (arc_value c.args.setup) hash all rest done now next c.in-Some.asked c.make-answer.result (subst (AreUnderWay (arc_value c.args.setup) hash all done now) first (c.loop-asked.invariant.0 hash)) c.make-answer.ensures.answers c.make-answer.ensures.skipped)),
      room-left done c.push.new.self.items c.make-answer.result rest c.in-Some.asked (into_iter_items c.loop-asked.asked-iterator) (vec_capacity c.loop-asked.answers) (vec_capacity c.push.new.self)
          pushed first c.loop-asked.invariant.1 c.push.ensures.capacity,
    )

pub returns : goal.returns
returns c =
    let rest = into_iter_items c.loop-asked.asked-iterator in
    let none = none-left rest (sym c.loop-asked.asked-iterator.rest.ok.0 ∙ c.in-None.ensures.steps.0) in
    λ hash. run-end (arc_value c.args.setup) hash c.args.calls.items c.loop-asked.answers.items c.loop-asked.core
    (subst (AreUnderWay (arc_value c.args.setup) hash c.args.calls.items c.loop-asked.answers.items c.loop-asked.core) none (c.loop-asked.invariant.0 hash))
