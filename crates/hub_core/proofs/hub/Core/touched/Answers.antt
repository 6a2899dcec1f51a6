use Rattle.std.proofs.Common.{ap}
use Rattle.hub_core.specs.CoreState.{CoreState}
use Rattle.hub_core.proofs.hub.Core.touched.Goals as goal

pub returns : goal.returns
returns c = ap (λ (s : CoreState). s.touched) c.self.view_is
