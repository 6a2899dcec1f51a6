use Rattle.server_tasks.proofs.Patience.{patience-ends, patience-short, patience-lasts}
use Rattle.server_tasks.proofs.laws.patience_laws.Goals as goal

pub returns-clause-ends : goal.returns-clause-ends
returns-clause-ends c = patience-ends

pub returns-clause-short : goal.returns-clause-short
returns-clause-short c = patience-short

pub returns-clause-lasts : goal.returns-clause-lasts
returns-clause-lasts c = patience-lasts
