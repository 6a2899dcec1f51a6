use Rattle.hub_laws.proofs.Words.{taken_is_the_sum}
use Rattle.hub_laws.proofs.Delivery.{delivered_are_the_first}
use Rattle.hub_laws.proofs.Lag.{lag_is_the_first, owed_are_shares}
use Rattle.hub_laws.proofs.laws.take_laws.Goals as goal

pub returns-clause-taken : goal.returns-clause-taken
returns-clause-taken c = taken_is_the_sum

pub returns-clause-delivered : goal.returns-clause-delivered
returns-clause-delivered c = delivered_are_the_first

pub returns-clause-owed : goal.returns-clause-owed
returns-clause-owed c = owed_are_shares

pub returns-clause-lag : goal.returns-clause-lag
returns-clause-lag c = lag_is_the_first
