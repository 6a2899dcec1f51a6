use Rattle.std.proofs.Common.{ap}
use Rattle.hub_core.specs.CoreState.{CoreState}
use Rattle.hub_core.proofs.NextHistory.{joins-told}
use Rattle.hub_core.proofs.hub.Core.joins.Goals as goal

pub returns : goal.returns
returns c = joins-told _ _ (ap (λ (s : CoreState). s.joins) c.self.view_is)
