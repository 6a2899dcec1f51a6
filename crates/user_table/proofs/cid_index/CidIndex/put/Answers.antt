use Rattle.std.proofs.Common.{Some, subst}
use Rattle.user_table.specs.Indexes.{IsSetAt}
use Rattle.user_table.proofs.IndexLemmas.{bytes-set}
use Rattle.user_table.proofs.cid_index.CidIndex.put.Goals as goal
use Rattle.user_table.proofs.cid_index.CidIndex.put.Goals.{in-Ok, in-Err}

pub returns-clause-put : goal.returns-clause-put
returns-clause-put c =
    elim c.match-insert.branch [
      | in-Ok w ↦
          rw w.result-is
          (subst (λ index. IsSetAt c.args.cid (Some c.args.sid) index c.insert.new.self.entries) c.self.view_is
          (bytes-set c.args.cid c.self.inside.sids c.insert.new.self (Some c.args.sid) w.in-Ok.ensures.updates))
      | in-Err w ↦ rw w.result-is tt
    ]
