use Rattle.hub_laws.proofs.Entries.{present_in_order}
use Rattle.hub_invariants.proofs.Open.{open_are_those_that_stayed}
use Rattle.hub_laws.proofs.Words.{others_are_out, present_are_users, users_are_open}
use Rattle.hub_laws.proofs.Stages.{stage_is_last_made}
use Rattle.hub_laws.proofs.laws.presence_laws.Goals as goal

pub returns-clause-users : goal.returns-clause-users
returns-clause-users c = present_are_users

pub returns-clause-open : goal.returns-clause-open
returns-clause-open c = users_are_open

pub returns-clause-others : goal.returns-clause-others
returns-clause-others c = others_are_out

pub returns-clause-order : goal.returns-clause-order
returns-clause-order c = present_in_order

pub returns-clause-stayed : goal.returns-clause-stayed
returns-clause-stayed c = open_are_those_that_stayed

pub returns-clause-stage : goal.returns-clause-stage
returns-clause-stage c = stage_is_last_made
