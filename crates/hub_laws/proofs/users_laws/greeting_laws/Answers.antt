use Rattle.hub_laws.proofs.Greetings.{newcomers_hear_the_topic}
use Rattle.hub_laws.proofs.users_laws.greeting_laws.Goals as goal

pub returns : goal.returns
returns c = newcomers_hear_the_topic
