use Rattle.std.proofs.Common.{arith}
use Rattle.adc_sessions.proofs.Steps.{waits_still}
use Rattle.adc_sessions.proofs.running.Live.shed.Goals as goal

pub returns-then-self-len-clause-little : goal.returns-then-self-len-clause-little
returns-then-self-len-clause-little g c = λ none. absurd (waits_still c.args.self.now.output.items c.args.self.now.written (omega arith) none)
