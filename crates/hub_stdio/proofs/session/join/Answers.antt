use Rattle.std.proofs.Common.{refl}
use Rattle.hub_rules.specs.declared.history.Reply.TheVariants.{Joined}
use Rattle.hub_stdio.proofs.Joins.{join_starts, join_first, join_not_full, join_not_spent}
use Rattle.hub_stdio.proofs.session.join.Goals as goal

pub unreachable-requires : goal.unreachable-requires
unreachable-requires c =
    join_not_full c.args.setup.now (λ bytes. bytes) c.args.core.now c.join.new.self (c.requires.empty (λ bytes. bytes)) c.max_users.ensures.some (rw c.in-Err-Full.field-0-is at c.in-Err-Full.ensures.moves)

pub unreachable-requires-in-Err-JoinsSpent : goal.unreachable-requires-in-Err-JoinsSpent
unreachable-requires-in-Err-JoinsSpent c =
    join_not_spent c.args.setup.now (λ bytes. bytes) c.args.core.now c.join.new.self (c.requires.empty (λ bytes. bytes)) c.max_users.ensures.some (rw c.in-Err-JoinsSpent.field-0-is at c.in-Err-JoinsSpent.ensures.moves)

pub returns-in-Ok-clause-first : goal.returns-in-Ok-clause-first
returns-in-Ok-clause-first c =
    join_first c.args.setup.now (λ bytes. bytes) c.args.core.now c.join.new.self (c.requires.empty (λ bytes. bytes)) c.max_users.ensures.some (Joined c.in-Ok.connection) c.in-Ok.ensures.moves c.in-Ok.connection refl

pub returns-in-Ok-clause-starts : goal.returns-in-Ok-clause-starts
returns-in-Ok-clause-starts c hash =
    join_starts c.args.setup.now hash c.args.core.now c.join.new.self (c.requires.empty hash) c.max_users.ensures.some (Joined c.in-Ok.connection) c.in-Ok.ensures.moves
