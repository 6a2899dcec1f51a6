use Rattle.hub_laws.proofs.CommonOrder.{all_hear_in_one_order}
use Rattle.hub_laws.proofs.CommonOrder.{all_hear_the_same}
use Rattle.hub_laws.proofs.users_laws.hearing_laws.Goals as goal

pub returns-clause-order : goal.returns-clause-order
returns-clause-order c = all_hear_in_one_order

pub returns-clause-same : goal.returns-clause-same
returns-clause-same c = all_hear_the_same
