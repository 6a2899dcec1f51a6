use Rattle.hub_laws.proofs.Removals.{namesakes_come_later, only_users_are_removed, removals_are_heard, removals_come_first}
use Rattle.hub_laws.proofs.laws.removal_laws.Goals as goal

pub returns-clause-heard : goal.returns-clause-heard
returns-clause-heard c = removals_are_heard

pub returns-clause-first : goal.returns-clause-first
returns-clause-first c = removals_come_first

pub returns-clause-namesakes : goal.returns-clause-namesakes
returns-clause-namesakes c = namesakes_come_later

pub returns-clause-users : goal.returns-clause-users
returns-clause-users c = only_users_are_removed
