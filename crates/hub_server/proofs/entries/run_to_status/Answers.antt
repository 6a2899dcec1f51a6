use Rattle.std.proofs.Common.{◌∙◌, sym}
use Rattle.hub_server.proofs.ServerEnd.{is-served}
use Rattle.hub_server.proofs.entries.run_to_status.Goals as goal

pub returns-clause-served : goal.returns-clause-served
returns-clause-served g c = λ zero. rw c.deref.ensures at (c.run_and_log_end-ending.ensures.served (is-served c.run_and_log_end-ending.result.0 (sym c.tell.ensures.status ∙ zero)))
