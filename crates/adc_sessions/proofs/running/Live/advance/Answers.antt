use Rattle.adc_sessions.specs.declared.ending.End.TheVariants as ends
use Rattle.adc_sessions.proofs.Steps.{line_was_there}
use Rattle.adc_sessions.proofs.Polls.{ends_here}
use Rattle.adc_sessions.proofs.running.Live.advance.Goals as goal

pub returns-in-Ok-TooLong-clause-turned : goal.returns-in-Ok-TooLong-clause-turned
returns-in-Ok-TooLong-clause-turned g c =
    let said = rw c.in-Ok-TooLong.field-0-is at c.in-Ok-TooLong.ensures.ok in
    ends_here _ _ _ ends.TooLong _ (said.2, said.3)

pub returns-in-Err-clause-turned : goal.returns-in-Err-clause-turned
returns-in-Err-clause-turned g c = ends_here _ _ _ ends.Memory _ (tt {0})

pub hand-requires-clause-free : goal.hand-requires-clause-free
hand-requires-clause-free g c =
    c.requires.free (line_was_there c.args.self.now.may_have_line c.args.self.now.framer _ _ c.args.self.now.has_none (rw c.in-Ok-Line.field-0-is at c.in-Ok-Line.ensures.first))
