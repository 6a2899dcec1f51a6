use Rattle.std.proofs.Common.{ap, ◌∙◌}
use Rattle.user_table.specs.Tables.{has_key, user_by_key}
use Rattle.user_table.proofs.IndexedLemmas.{found-by-index}
use Rattle.user_table.proofs.indexed.IndexedUsersUsers.by_nick.Goals as goal

pub returns-clause-found : goal.returns-clause-found
returns-clause-found c =
    c.get-2.ensures
    ∙ found-by-index (has_key c.args.key.now) c.self.inside.roster c.in_ok-sid.sid c.self.invariant.distinct.sids (c.in_ok-sid.ensures ∙ c.self.invariant.by_key c.args.key.now)
    ∙ ap (user_by_key c.args.key.now) c.self.view_is
