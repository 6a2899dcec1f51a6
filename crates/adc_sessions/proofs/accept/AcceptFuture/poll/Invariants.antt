use Rattle.futures.specs.Task.{Keeps}
use Rattle.adc_sessions.specs.AcceptEnds.{AcceptsIn}
use Rattle.adc_sessions.proofs.accept.AcceptFuture.poll.Given as goal

abbrev pub invariant-loop-turn : goal.invariant-loop-turn
invariant-loop-turn g l = AcceptsIn g.I.Incoming.brings g.T.Starter.starts l.turn l.fn.self l.self × Keeps l.fn.cx l.cx
