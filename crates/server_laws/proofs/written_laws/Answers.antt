use Rattle.server_laws.proofs.Owed.{visits_are_paid, written_is_owed}
use Rattle.server_laws.proofs.written_laws.Goals as goal

pub returns-clause-paid : goal.returns-clause-paid
returns-clause-paid c start = λ terms. visits_are_paid _ _ _

pub returns-clause-written : goal.returns-clause-written
returns-clause-written c start = written_is_owed _ _ _ _ _ _
