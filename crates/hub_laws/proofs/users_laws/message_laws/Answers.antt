use Rattle.hub_laws.proofs.Messages.{messages_are_accepted}
use Rattle.hub_laws.proofs.users_laws.message_laws.Goals as goal

pub returns : goal.returns
returns c = messages_are_accepted
