use Rattle.hub_laws.proofs.Commands.{kicks_are_carried_out}
use Rattle.hub_laws.proofs.Commands.{bans_are_carried_out}
use Rattle.hub_laws.proofs.Commands.{unbans_are_carried_out}
use Rattle.hub_laws.proofs.Commands.{topics_are_carried_out}
use Rattle.hub_laws.proofs.users_laws.command_laws.Goals as goal

pub returns-clause-kicks : goal.returns-clause-kicks
returns-clause-kicks c = kicks_are_carried_out

pub returns-clause-bans : goal.returns-clause-bans
returns-clause-bans c = bans_are_carried_out

pub returns-clause-unbans : goal.returns-clause-unbans
returns-clause-unbans c = unbans_are_carried_out

pub returns-clause-topics : goal.returns-clause-topics
returns-clause-topics c = topics_are_carried_out
