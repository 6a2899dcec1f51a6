use Rattle.std.proofs.Common.{rules, arith, refl, rules}
use Rattle.adc_sessions.specs.State.{polling}
use Rattle.adc_sessions.proofs.Polls.{no_call, ActsBy-append, PollEnds-append, pauses_full, pauses_after, PausesIn-same}
use Rattle.adc_sessions.proofs.running.Live.run.Goals as goal

pub loop-turn-init : goal.loop-turn-init
loop-turn-init g c = (rw c.begin.ensures (no_call _ _ _ (polling c.args.self.now)), search rules)

pub loop-turn-preserved : goal.loop-turn-preserved
loop-turn-preserved g c = (ActsBy-append _ _ _ _ 1 _ _ _ c.loop-turn.invariant.0 c.in-Again.ensures.turned, search rules)

pub returns-in-Rest-clause-polled : goal.returns-in-Rest-clause-polled
returns-in-Rest-clause-polled g c =
    PausesIn-same _ _ _ _ _ 64 _ _ _ c.shed.ensures.state
    (pauses_after _ _ _ _ _ c.loop-turn.turn 64 (polling c.args.self.now) _ _ refl (omega arith) c.shed.ensures.little c.loop-turn.invariant.0 c.in-Rest.ensures.turned)

pub returns-in-Over-clause-polled : goal.returns-in-Over-clause-polled
returns-in-Over-clause-polled g c = PollEnds-append _ _ _ c.loop-turn.turn 1 64 _ _ c.in-Over.end _ _ (omega arith) c.loop-turn.invariant.0 c.in-Over.ensures.turned

pub returns-clause-polled : goal.returns-clause-polled
returns-clause-polled g c =
    rw c.yield_now.ensures.pending (pauses_full _ _ _ _ _ c.loop-turn.turn 64 (polling c.args.self.now) _ refl (omega arith) c.yield_now.ensures.woken c.loop-turn.invariant.0)
