use Rattle.hub_laws.proofs.Words.{few_are_open, sids_are_given, sids_differ}
use Rattle.hub_laws.proofs.Joins.{joins_are_counted, joins_stay}
use Rattle.hub_laws.proofs.laws.identifier_laws.Goals as goal

pub returns-clause-differ : goal.returns-clause-differ
returns-clause-differ c = sids_differ

pub returns-clause-given : goal.returns-clause-given
returns-clause-given c = sids_are_given

pub returns-clause-few : goal.returns-clause-few
returns-clause-few c = few_are_open

pub returns-clause-stay : goal.returns-clause-stay
returns-clause-stay c = joins_stay

pub returns-clause-counted : goal.returns-clause-counted
returns-clause-counted c = joins_are_counted
