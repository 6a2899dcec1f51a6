use Rattle.std.proofs.Common.{sym, ◌∙◌, subst}
use Rattle.std.specs.Vec.{vec_capacity}
use Rattle.std.specs.Vec.Iter.{into_iter_items}
use Rattle.plain_users.proofs.RunLemmas.{AreUnderWay, run-step, run-end, room-left, none-left}
use Rattle.plain_users.proofs.run.run_users.Goals as goal

pub loop-command-preserved : goal.loop-command-preserved
loop-command-preserved g c =
    let before = g.U.Users.listed c.args.users.now in
    let now = g.U.Users.listed c.loop-command.users in
    let next = g.U.Users.listed c.answer-answer.new.users in
    let all = c.args.commands.items in
    let done = c.loop-command.answers.items in
    let rest = into_iter_items c.next.new.self in
    let first = c.in-Some.ensures.steps.0 in
    let pushed = rw c.unwrap.ensures at c.push.ensures.items in (
      rw pushed
          (run-step before now next all rest done c.in-Some.command c.answer-answer.result (subst (AreUnderWay before all done now) first c.loop-command.invariant.0) c.answer-answer.ensures),
      room-left done c.push.new.self.items c.answer-answer.result rest c.in-Some.command (into_iter_items c.loop-command.command-iterator) (vec_capacity c.loop-command.answers) (vec_capacity c.push.new.self)
          pushed first c.loop-command.invariant.1 c.push.ensures.capacity,
    )

pub returns-clause-ran : goal.returns-clause-ran
returns-clause-ran g c =
    let before = g.U.Users.listed c.args.users.now in
    let now = g.U.Users.listed c.loop-command.users in
    let done = c.loop-command.answers.items in
    let rest = into_iter_items c.loop-command.command-iterator in
    let none = none-left rest (sym c.loop-command.command-iterator.rest.ok.0 ∙ c.in-None.ensures.steps.0) in
    run-end before now c.args.commands.items done (subst (AreUnderWay before c.args.commands.items done now) none c.loop-command.invariant.0)
