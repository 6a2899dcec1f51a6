use Rattle.std.proofs.Common.{Some, subst}
use Rattle.hub_core.specs.Index.{IsSetAtSid}
use Rattle.hub_core.proofs.Indexed.{number-set}
use Rattle.hub_core.proofs.sid_index.SidIndex.put.Goals as goal
use Rattle.hub_core.proofs.sid_index.SidIndex.put.Goals.{in-Ok, in-Err}

pub returns-clause-put : goal.returns-clause-put
returns-clause-put c =
    elim c.match-insert.branch [
      | in-Ok w ↦
          rw w.result-is
          (subst (λ index. IsSetAtSid c.args.sid (Some c.args.number) index c.insert.new.self.entries) c.self.view_is
          (number-set c.args.sid c.self.inside.numbers c.insert.new.self (Some c.args.number) w.in-Ok.ensures.updates))
      | in-Err w ↦ rw w.result-is tt
    ]
