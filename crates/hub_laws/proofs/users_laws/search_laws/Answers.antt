use Rattle.hub_laws.proofs.Intervals.{searches_are_apart}
use Rattle.hub_laws.proofs.Messages.{searches_are_accepted}
use Rattle.hub_laws.proofs.users_laws.search_laws.Goals as goal

pub returns-clause-apart : goal.returns-clause-apart
returns-clause-apart c = searches_are_apart

pub returns-clause-accepted : goal.returns-clause-accepted
returns-clause-accepted c = searches_are_accepted
