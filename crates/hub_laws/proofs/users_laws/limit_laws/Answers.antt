use Rattle.hub_laws.proofs.Limits.{few_lines_wait}
use Rattle.hub_laws.proofs.Words.{few_are_open}
use Rattle.hub_laws.proofs.Bans.{bans_are_few}
use Rattle.hub_laws.proofs.Limits.{users_are_well_formed}
use Rattle.hub_laws.proofs.Types.{operators_have_accounts}
use Rattle.hub_laws.proofs.users_laws.limit_laws.Goals as goal

pub returns-clause-waiting : goal.returns-clause-waiting
returns-clause-waiting c = few_lines_wait

pub returns-clause-open : goal.returns-clause-open
returns-clause-open c = few_are_open

pub returns-clause-bans : goal.returns-clause-bans
returns-clause-bans c = bans_are_few

pub returns-clause-users : goal.returns-clause-users
returns-clause-users c = users_are_well_formed

pub returns-clause-operators : goal.returns-clause-operators
returns-clause-operators c = operators_have_accounts
