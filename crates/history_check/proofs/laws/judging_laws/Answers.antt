use Rattle.history_check.proofs.Histories.{fault-not-legal}
use Rattle.history_check.proofs.laws.judging_laws.Goals as goal

pub returns : goal.returns
returns c = fault-not-legal
