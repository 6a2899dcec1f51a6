use Rattle.hub_laws.proofs.SenderOrder.{calls_keep_their_order, messages_keep_their_order, owed_grows, senders_are_named}
use Rattle.hub_laws.proofs.laws.order_laws.Goals as goal

pub returns-clause-grows : goal.returns-clause-grows
returns-clause-grows c = owed_grows

pub returns-clause-calls : goal.returns-clause-calls
returns-clause-calls c = calls_keep_their_order

pub returns-clause-messages : goal.returns-clause-messages
returns-clause-messages c = messages_keep_their_order

pub returns-clause-named : goal.returns-clause-named
returns-clause-named c = senders_are_named
