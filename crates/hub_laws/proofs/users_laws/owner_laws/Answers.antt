use Rattle.hub_laws.proofs.Owners.{cids_are_shown}
use Rattle.hub_laws.proofs.users_laws.owner_laws.Goals as goal

pub returns : goal.returns
returns c = cids_are_shown
