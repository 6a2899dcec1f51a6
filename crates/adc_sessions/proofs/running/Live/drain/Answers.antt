use Rattle.std.proofs.lemmas.List.{drop_all}
use Rattle.adc_sessions.specs.declared.ending.End.TheVariants as ends
use Rattle.adc_sessions.proofs.Polls.{ends_here}
use Rattle.adc_sessions.proofs.running.Live.drain.Goals as goal

pub returns-then-has_given_nothing-clause-turned : goal.returns-then-has_given_nothing-clause-turned
returns-then-has_given_nothing-clause-turned g c =
    let none = drop_all c.args.self.now.written c.args.self.now.output.items c.requires.written in
    ends_here _ _ _ ends.Closed _ (c.requires.met, c.requires.no_line, none, c.has_given_nothing.ensures.nothing c.if-has_given_nothing.true, cc)
