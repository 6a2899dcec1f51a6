use Rattle.futures.specs.Task.{Keeps}
use Rattle.adc_sessions.specs.Events.{StreamStep}
use Rattle.adc_sessions.specs.Polls.{ActsBy}
use Rattle.adc_sessions.specs.State.{poll_of, polling}
use Rattle.adc_sessions.proofs.running.Live.run.Given as goal

abbrev pub invariant-loop-turn : goal.invariant-loop-turn
invariant-loop-turn g l =
    ActsBy (StreamStep g.S.AsyncRead.reads g.S.AsyncRead.is_at_end g.S.AsyncRead.fails g.S.AsyncWrite.writes g.S.AsyncWrite.is_full g.S.AsyncWrite.fails) g.P.Port.step g.B.Bell.hears l.turn (polling l.fn.self) (poll_of l.self)
    × Keeps l.fn.cx l.cx
