use Rattle.user_table.proofs.IndexedLemmas.{indexed-either}
use Rattle.user_table.proofs.indexed.IndexedUsers.update.Goals as goal

pub invariant_of-self : goal.invariant_of-self
invariant_of-self c =
    indexed-either c.merge.result c.args.sid c.args.update.now c.self.inside.roster c.merge.new.self c.self.inside.nicks c.self.inside.cids c.self.invariant c.merge.ensures.merged
    c.merge.ensures.unchanged
