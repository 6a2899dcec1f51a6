use Rattle.hub_laws.proofs.Routes.{empty_lines_owe_nothing, joins_and_takes_owe_nothing, messages_are_routed, quiet_quits, who_is_out_is_not_heard}
use Rattle.hub_laws.proofs.Strangers.{strangers_are_not_heard}
use Rattle.hub_laws.proofs.Welcome.{entrants_are_welcomed, entries_are_heard}
use Rattle.hub_laws.proofs.laws.routing_laws.Goals as goal

pub returns-clause-messages : goal.returns-clause-messages
returns-clause-messages c = messages_are_routed

pub returns-clause-calls : goal.returns-clause-calls
returns-clause-calls c = joins_and_takes_owe_nothing

pub returns-clause-empty : goal.returns-clause-empty
returns-clause-empty c = empty_lines_owe_nothing

pub returns-clause-out : goal.returns-clause-out
returns-clause-out c = who_is_out_is_not_heard

pub returns-clause-quits : goal.returns-clause-quits
returns-clause-quits c = quiet_quits

pub returns-clause-entries : goal.returns-clause-entries
returns-clause-entries c = entries_are_heard

pub returns-clause-entrants : goal.returns-clause-entrants
returns-clause-entrants c = entrants_are_welcomed

pub returns-clause-strangers : goal.returns-clause-strangers
returns-clause-strangers c = strangers_are_not_heard
