use Rattle.std.proofs.Common.{◌∙◌, sym, ap, true, false}
use Rattle.operator_acts.specs.Acts.{act_at}
use Rattle.hub_decisions.specs.Commands.{effect_of_asked}
use Rattle.hub_decisions.proofs.Acts.{operator-asks, others-ask, operator-is}
use Rattle.hub_decisions.proofs.KnownUsers.{when-ok}
use Rattle.hub_decisions.proofs.act.decide_command.Goals as goal

pub returns-then-not-is_operator : goal.returns-then-not-is_operator
returns-then-not-is_operator c =
    when-ok c.denial.result c.denial.ensures
    (λ effect is known.
    others-ask c.args.hub.now c.args.own.now c.args.now (act_at c.args.text.now) effect is
    (operator-is c.args.hub.now c.args.own.now c.args.user.now c.is_operator.result false c.is_operator.ensures c.if-not-is_operator.true known))

pub returns-in-Ok : goal.returns-in-Ok
returns-in-Ok c =
    when-ok c.decide_act.result c.decide_act.ensures
    (λ effect is known.
    operator-asks c.args.hub.now c.args.own.now c.args.now (act_at c.args.text.now) effect (is ∙ ap (effect_of_asked c.args.hub.now c.args.own.now c.args.now) (sym c.in-Ok.ensures))
    (operator-is c.args.hub.now c.args.own.now c.args.user.now c.is_operator.result true c.is_operator.ensures c.if-not-is_operator.false known))

pub returns-in-Err-Bad : goal.returns-in-Err-Bad
returns-in-Err-Bad c =
    let none = rw c.in-Err-Bad.field-0-is at c.in-Err-Bad.ensures in
    when-ok c.denial-in-Err-Bad.result c.denial-in-Err-Bad.ensures
    (λ effect is known.
    operator-asks c.args.hub.now c.args.own.now c.args.now (act_at c.args.text.now) effect (is ∙ ap (effect_of_asked c.args.hub.now c.args.own.now c.args.now) (sym none))
    (operator-is c.args.hub.now c.args.own.now c.args.user.now c.is_operator.result true c.is_operator.ensures c.if-not-is_operator.false known))
