use Rattle.std.proofs.Common.{subst}
use Rattle.adc_sessions.specs.Events.{StreamStep}
use Rattle.adc_sessions.specs.Machine.{State, Gives}
use Rattle.adc_sessions.proofs.Whole.{served}
use Rattle.adc_sessions.proofs.session.Session.new.Goals as goal

pub returns-clause-serves : goal.returns-clause-serves
returns-clause-serves g c = λ end stream' left gives.
    let reports = StreamStep g.S.AsyncRead.reads g.S.AsyncRead.is_at_end g.S.AsyncRead.fails g.S.AsyncWrite.writes g.S.AsyncWrite.is_full g.S.AsyncWrite.fails in
    served reports g.P.Port.step g.P.Port.leaves c.args.stream c.args.port end stream' left
    (subst (λ (state : State g.row.S.Denot g.row.P.Denot). Gives reports g.P.Port.step g.P.Port.leaves state end stream' left) c.new-live.ensures gives)
