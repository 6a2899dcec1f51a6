use Rattle.futures.specs.Task.{Keeps}
use Rattle.hub_listener.specs.Rests.{HasBegun, socket_of}
use Rattle.hub_listener.proofs.listener.Listener.poll_arrived.Given as goal

-- nobody came so far, and a rest that began is not forgotten
abbrev pub invariant-loop-attempt : goal.invariant-loop-attempt
invariant-loop-attempt g l = Keeps l.fn.cx l.cx × g.I.Listens.waits (socket_of l.fn.self) (socket_of l.self) × (HasBegun l.fn.self → HasBegun l.self)
