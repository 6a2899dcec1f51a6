use Rattle.operator_acts.proofs.LastActs.{left-by_last_act, held-by_last_act}
use Rattle.operator_acts.proofs.laws.ban_laws.Goals as goal

pub returns-clause-left : goal.returns-clause-left
returns-clause-left c = left-by_last_act

pub returns-clause-held : goal.returns-clause-held
returns-clause-held c = held-by_last_act
