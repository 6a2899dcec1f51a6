use Rattle.hub_laws.proofs.Outsiders.{outsiders_hear_nothing}
use Rattle.hub_laws.proofs.users_laws.outsider_laws.Goals as goal

pub returns : goal.returns
returns c = outsiders_hear_nothing
