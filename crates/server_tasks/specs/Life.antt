-- The life of a server: it opens, and is closed for good. The first fault counts.
use Rattle.std.specs.Prelude.{Bool, true, false, Option, Some, None, is_some, if◌then◌else◌}
use Rattle.futures.specs.declared.task.Poll.{Poll}
use Rattle.futures.specs.declared.task.Poll.TheVariants.{Ready, Pending}
use Rattle.server_tasks.specs.declared.state.ServerFault.{ServerFault}
use Rattle.server_tasks.specs.declared.state.LifecycleState.{LifecycleState}
use Rattle.server_tasks.specs.declared.state.Opened.{Opened}

abbrev pub first_fault : Option ServerFault → Option ServerFault → Option ServerFault
first_fault None later = later
first_fault (Some fault) later = Some fault

-- the server is open, and who waits for it was woken
abbrev pub opened : LifecycleState → LifecycleState
opened state = record state { is_open = true; waker = None }

-- the server is closed, and who waits for it was woken
abbrev pub closed : Option ServerFault → LifecycleState → LifecycleState
closed cause state = record state { is_closed = true; fault = first_fault state.fault cause; waker = None }

-- what a task hears that waits for the opening
abbrev pub opening : LifecycleState → Poll Bool
opening state = if state.is_closed then Ready false else if state.is_open then Ready true else Pending

-- whether a task hears that the server is open, once it hears anything
abbrev pub answer_of : Poll (Option Opened) → Poll Bool
answer_of (Ready word) = Ready (is_some word)
answer_of Pending = Pending
