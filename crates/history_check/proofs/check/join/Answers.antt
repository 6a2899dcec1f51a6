use Rattle.std.proofs.Common.{refl, subst, ◌∷◌, Err}
use Rattle.hub_core.specs.Promises.{JoinMoves}
use Rattle.hub_core.specs.declared.refused.JoinRefused.{JoinRefused}
use Rattle.hub_rules.specs.declared.history.Call.TheVariants.{Join}
use Rattle.hub_rules.specs.declared.history.Reply.TheVariants.{Full, JoinsSpent, Joined}
use Rattle.hub_core.specs.Moves.{entry}
use Rattle.history_check.proofs.Joins.{follows-join, follows-refused}
use Rattle.history_check.proofs.check.join.Goals as goal

pub returns-in-Err-Full : goal.returns-in-Err-Full
returns-in-Err-Full c = λ setup hash h follows.
    follows-refused setup hash h c.args.core.now c.join.new.self c.args.joined.now.items c.args.caller c.args.peer c.args.challenge c.args.now Full refl follows
    ((subst (λ (e : JoinRefused). JoinMoves (Err e) c.args.core.now (Join c.args.peer c.args.challenge c.args.now) c.join.new.self) c.in-Err-Full.field-0-is c.in-Err-Full.ensures.moves).0
    setup hash h c.args.caller follows.stands tt)

pub returns-in-Err-JoinsSpent : goal.returns-in-Err-JoinsSpent
returns-in-Err-JoinsSpent c = λ setup hash h follows.
    follows-refused setup hash h c.args.core.now c.join.new.self c.args.joined.now.items c.args.caller c.args.peer c.args.challenge c.args.now JoinsSpent refl follows
    ((subst (λ (e : JoinRefused). JoinMoves (Err e) c.args.core.now (Join c.args.peer c.args.challenge c.args.now) c.join.new.self) c.in-Err-JoinsSpent.field-0-is c.in-Err-JoinsSpent.ensures.moves).0
    setup hash h c.args.caller follows.stands tt)

pub returns-in_ok-push-in-Ok : goal.returns-in_ok-push-in-Ok
returns-in_ok-push-in-Ok c = λ setup hash h follows.
    let stands = c.in-Ok.ensures.moves setup hash h c.args.caller follows.stands tt in
    follows-join setup hash h c.args.core.now c.join.new.self c.args.joined.now.items c.push.new.self.items (record { connection = c.in-Ok.connection; caller = c.args.caller; challenge = c.args.challenge })
    c.args.caller c.args.peer c.args.challenge c.args.now c.joins.result
    follows refl refl c.in_ok-push-in-Ok.ensures.items stands
    (c.joins.ensures setup hash (entry c.args.caller (Join c.args.peer c.args.challenge c.args.now) (Joined c.in-Ok.connection) ∷ h) stands)
