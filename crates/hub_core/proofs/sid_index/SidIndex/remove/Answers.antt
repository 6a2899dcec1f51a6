use Rattle.std.proofs.Common.{None, subst}
use Rattle.hub_core.specs.Index.{IsSetAtSid}
use Rattle.hub_core.proofs.Indexed.{number-set}
use Rattle.hub_core.proofs.sid_index.SidIndex.remove.Goals as goal

pub returns : goal.returns
returns c =
    subst (λ index. IsSetAtSid c.args.sid None index c.remove.new.self.entries) c.self.view_is
    (number-set c.args.sid c.self.inside.numbers c.remove.new.self None c.remove.ensures.updates)
