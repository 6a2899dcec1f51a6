use Rattle.adc_sessions.proofs.Polls.{turned_behind}
use Rattle.adc_sessions.proofs.running.Live.wait_to_take.Goals as goal

pub returns-then-self-clause-turned : goal.returns-then-self-clause-turned
returns-then-self-clause-turned g c = turned_behind _ _ _ c.take.result _ _ _ c.listen.ensures.acts c.take.ensures.turned

pub returns-then-not-is_listening-clause-turned : goal.returns-then-not-is_listening-clause-turned
returns-then-not-is_listening-clause-turned g c = turned_behind _ _ _ c.take-then-not-is_listening.result _ _ _ c.listen.ensures.acts c.take-then-not-is_listening.ensures.turned
