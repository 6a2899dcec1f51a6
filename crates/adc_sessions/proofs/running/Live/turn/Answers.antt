use Rattle.std.proofs.Common.{arith}
use Rattle.std.proofs.lemmas.List.{drop_all}
use Rattle.adc_sessions.specs.declared.ending.End.TheVariants as ends
use Rattle.adc_sessions.proofs.Polls.{ends_here, turned_behind}
use Rattle.adc_sessions.proofs.running.Live.turn.Goals as goal

pub returns-then-has_ended-clause-turned : goal.returns-then-has_ended-clause-turned
returns-then-has_ended-clause-turned g c =
    let none = drop_all c.args.self.now.written c.args.self.now.output.items (omega arith) in
    ends_here _ _ _ ends.Ended _ (none, c.has_ended.ensures c.if-has_ended.true)

pub returns-then-self-clause-turned : goal.returns-then-self-clause-turned
returns-then-self-clause-turned g c = turned_behind _ _ _ c.take.result _ _ _ c.listen.ensures.acts c.take.ensures.turned

pub returns-then-is_held-clause-turned : goal.returns-then-is_held-clause-turned
returns-then-is_held-clause-turned g c = turned_behind _ _ _ c.wait_to_take-then-is_held.result _ _ _ c.is_held.ensures.acts c.wait_to_take-then-is_held.ensures.turned

pub returns-clause-turned : goal.returns-clause-turned
returns-clause-turned g c = turned_behind _ _ _ c.advance.result _ _ _ c.is_held.ensures.acts c.advance.ensures.turned
