use Rattle.std.proofs.Common.{◌∙◌, ap}
use Rattle.hub_rules.specs.Views.{user_after}
use Rattle.hub_decisions.specs.Requested.{effect_of_login}
use Rattle.hub_decisions.proofs.KnownUsers.{when-ok}
use Rattle.hub_decisions.proofs.Logins.{login-admitted, login-denied}
use Rattle.hub_decisions.proofs.login.decide_login.Goals as goal

pub returns-in-Ok : goal.returns-in-Ok
returns-in-Ok c =
    when-ok c.effect_of_entrant.result c.effect_of_entrant.ensures
    (λ effect is none.
    let made = rw c.in-Ok.is at (c.in_ok-entrant.ensures none) in
    login-admitted c.args.hub.now c.args.own.now c.args.line.now c.owner.result c.args.now c.in-Some.inf.now effect
    c.owner.ensures made.0 (is (user_after c.args.own.now c.in-Some.inf.now) made.1)
    ∙ ap (effect_of_login c.args.hub.now c.args.own.now c.args.line.now c.args.now) c.in-Some.ensures)

pub returns-in-Err : goal.returns-in-Err
returns-in-Err c =
    when-ok c.denial-in-Err.result c.denial-in-Err.ensures
    (λ effect is none.
    is
    ∙ login-denied c.args.hub.now c.args.own.now c.args.line.now c.owner.result c.args.now c.in-Some.inf.now c.in-Err.deny
    c.owner.ensures (rw c.in-Err.is at (c.in_ok-entrant.ensures none))
    ∙ ap (effect_of_login c.args.hub.now c.args.own.now c.args.line.now c.args.now) c.in-Some.ensures)
