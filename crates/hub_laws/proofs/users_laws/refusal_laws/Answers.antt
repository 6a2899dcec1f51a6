use Rattle.hub_laws.proofs.Refusals.{refusals_are_told_alone}
use Rattle.hub_laws.proofs.users_laws.refusal_laws.Goals as goal

pub returns : goal.returns
returns c = refusals_are_told_alone
