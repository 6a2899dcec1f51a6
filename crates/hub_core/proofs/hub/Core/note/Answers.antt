use Rattle.std.proofs.Common.{ap}
use Rattle.hub_core.specs.CoreState.{noted}
use Rattle.hub_core.proofs.hub.Core.note.Goals as goal

pub returns : goal.returns
returns c = ap (noted c.args.touched) c.self.view_is
