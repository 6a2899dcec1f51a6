use Rattle.hub_laws.proofs.Bans.{bans_are_apart, bans_are_few}
use Rattle.hub_laws.proofs.Operators.{nobody_banned_enters, only_operators_ban, only_operators_set_topics, only_operators_shut_out}
use Rattle.hub_laws.proofs.OperatorActs.{acts_are_heard}
use Rattle.hub_laws.proofs.Worlds.{ban_is_the_last_act, topic_is_the_last}
use Rattle.hub_laws.proofs.laws.operator_laws.Goals as goal

pub returns-clause-bans : goal.returns-clause-bans
returns-clause-bans c = ban_is_the_last_act

pub returns-clause-topic : goal.returns-clause-topic
returns-clause-topic c = topic_is_the_last

pub returns-clause-banned : goal.returns-clause-banned
returns-clause-banned c = nobody_banned_enters

pub returns-clause-only_bans : goal.returns-clause-only_bans
returns-clause-only_bans c = only_operators_ban

pub returns-clause-only_topics : goal.returns-clause-only_topics
returns-clause-only_topics c = only_operators_set_topics

pub returns-clause-only_removals : goal.returns-clause-only_removals
returns-clause-only_removals c = only_operators_shut_out

pub returns-clause-few : goal.returns-clause-few
returns-clause-few c = bans_are_few

pub returns-clause-apart : goal.returns-clause-apart
returns-clause-apart c = bans_are_apart

pub returns-clause-heard : goal.returns-clause-heard
returns-clause-heard c = acts_are_heard
