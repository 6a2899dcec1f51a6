use Rattle.std.proofs.Common.{None, subst}
use Rattle.user_table.specs.Indexes.{IsSetAt}
use Rattle.user_table.proofs.IndexLemmas.{bytes-set}
use Rattle.user_table.proofs.cid_index.CidIndex.remove.Goals as goal

pub returns : goal.returns
returns c =
    subst (λ index. IsSetAt c.args.cid None index c.remove.new.self.entries) c.self.view_is
    (bytes-set c.args.cid c.self.inside.sids c.remove.new.self None c.remove.ensures.updates)
