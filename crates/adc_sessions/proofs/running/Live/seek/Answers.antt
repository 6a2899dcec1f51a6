use Rattle.adc_sessions.proofs.Polls.{turned_behind}
use Rattle.adc_sessions.proofs.running.Live.seek.Goals as goal

pub returns-then-self-3-clause-turned : goal.returns-then-self-3-clause-turned
returns-then-self-3-clause-turned g c = turned_behind _ _ _ c.take.result _ _ _ c.listen.ensures.acts c.take.ensures.turned

pub returns-then-not-is_listening-clause-turned : goal.returns-then-not-is_listening-clause-turned
returns-then-not-is_listening-clause-turned g c = turned_behind _ _ _ c.take-then-not-is_listening.result _ _ _ c.listen.ensures.acts c.take-then-not-is_listening.ensures.turned

pub returns-clause-turned : goal.returns-clause-turned
returns-clause-turned g c = turned_behind _ _ _ c.read-2.result _ _ _ c.listen.ensures.acts c.read-2.ensures.turned
