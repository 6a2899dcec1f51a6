use Rattle.adc_sessions.proofs.Counts.{accepts-begins}
use Rattle.adc_sessions.proofs.accept.Accept.new.Goals as goal

pub returns-clause-serves : goal.returns-clause-serves
returns-clause-serves g c = λ end gives. accepts-begins _ _ c.args.incoming c.args.starter c.args.stop_after end gives
