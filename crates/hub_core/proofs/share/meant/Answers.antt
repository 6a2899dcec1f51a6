use Rattle.hub_core.proofs.Owed.{meant-by}
use Rattle.hub_core.proofs.share.meant.Goals as goal

pub returns-in-Those : goal.returns-in-Those
returns-in-Those c = meant-by c.args.own c.args.effect.now c.in-Those.audience c.meant_by.result c.in-Those.is c.meant_by.ensures
