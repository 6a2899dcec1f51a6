use Rattle.hub_laws.proofs.Lists.{all_list_the_same}
use Rattle.hub_laws.proofs.users_laws.list_laws.Goals as goal

pub returns : goal.returns
returns c = all_list_the_same
