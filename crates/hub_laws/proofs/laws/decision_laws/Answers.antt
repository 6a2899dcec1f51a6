use Rattle.hub_laws.proofs.CarriedOut.{decided_is_taken}
use Rattle.hub_laws.proofs.laws.decision_laws.Goals as goal

pub returns : goal.returns
returns c = decided_is_taken
