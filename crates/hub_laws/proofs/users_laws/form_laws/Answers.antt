use Rattle.hub_laws.proofs.Forms.{lines_end_once}
use Rattle.hub_laws.proofs.Forms.{lines_are_messages}
use Rattle.hub_laws.proofs.users_laws.form_laws.Goals as goal

pub returns-clause-ends : goal.returns-clause-ends
returns-clause-ends c = lines_end_once

pub returns-clause-messages : goal.returns-clause-messages
returns-clause-messages c = lines_are_messages
