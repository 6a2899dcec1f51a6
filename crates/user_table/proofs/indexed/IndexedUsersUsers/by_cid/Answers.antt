use Rattle.std.proofs.Common.{ap, ◌∙◌}
use Rattle.user_table.specs.Tables.{has_cid, user_by_cid}
use Rattle.user_table.proofs.IndexedLemmas.{found-by-index}
use Rattle.user_table.proofs.indexed.IndexedUsersUsers.by_cid.Goals as goal

pub returns-clause-found : goal.returns-clause-found
returns-clause-found c =
    c.get-2.ensures
    ∙ found-by-index (has_cid c.args.cid) c.self.inside.roster c.in_ok-sid.sid c.self.invariant.distinct.sids (c.in_ok-sid.ensures ∙ c.self.invariant.by_cid c.args.cid)
    ∙ ap (user_by_cid c.args.cid) c.self.view_is
