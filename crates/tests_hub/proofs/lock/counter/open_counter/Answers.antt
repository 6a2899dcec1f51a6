use Rattle.one_history.proofs.Starts.{begins_none}
use Rattle.tests_hub.proofs.lock.counter.open_counter.Goals as goal

pub open-requires-clause-legal : goal.open-requires-clause-legal
open-requires-clause-legal c = λ e s b. absurd (begins_none e s b)

pub open-requires-2-clause-legal : goal.open-requires-2-clause-legal
open-requires-2-clause-legal c = λ e s b. absurd (begins_none e s b)
