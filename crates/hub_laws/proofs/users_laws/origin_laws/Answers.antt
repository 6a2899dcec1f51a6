use Rattle.hub_laws.proofs.Origins.{lines_have_origins}
use Rattle.hub_laws.proofs.users_laws.origin_laws.Goals as goal

pub returns : goal.returns
returns c = lines_have_origins
