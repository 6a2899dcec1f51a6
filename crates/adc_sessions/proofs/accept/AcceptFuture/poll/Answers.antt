use Rattle.std.proofs.Common.{rules, arith}
use Rattle.adc_sessions.proofs.Counts.{AcceptsIn-none, AcceptsIn-append, AcceptsIn-more, AcceptGives-append}
use Rattle.adc_sessions.proofs.accept.AcceptFuture.poll.Goals as goal

pub loop-turn-init : goal.loop-turn-init
loop-turn-init g c = (AcceptsIn-none g.I.Incoming.brings g.T.Starter.starts g.met.T.Starter.starts_nothing g.met.T.Starter.starts_in_order 0 c.args.self.now, search rules)

pub loop-turn-preserved : goal.loop-turn-preserved
loop-turn-preserved g c = (AcceptsIn-append g.I.Incoming.brings g.T.Starter.starts g.met.T.Starter.starts_nothing g.met.T.Starter.starts_in_order c.loop-turn.turn 1 _ c.args.self.now c.loop-turn.self c.turn.new.self (omega arith) c.loop-turn.invariant.0 c.turn.ensures.accepts, search rules)

pub returns-in-Rest-clause-accepts : goal.returns-in-Rest-clause-accepts
returns-in-Rest-clause-accepts g c = AcceptsIn-append g.I.Incoming.brings g.T.Starter.starts g.met.T.Starter.starts_nothing g.met.T.Starter.starts_in_order c.loop-turn.turn 1 16 c.args.self.now c.loop-turn.self c.turn.new.self (omega arith) c.loop-turn.invariant.0 c.turn.ensures.accepts

pub returns-in-Rest-clause-same : goal.returns-in-Rest-clause-same
returns-in-Rest-clause-same g c = λ end gives.
    AcceptGives-append g.I.Incoming.brings g.T.Starter.starts g.met.T.Starter.starts_nothing g.met.T.Starter.starts_in_order _ c.args.self.now c.turn.new.self end (AcceptsIn-append g.I.Incoming.brings g.T.Starter.starts g.met.T.Starter.starts_nothing g.met.T.Starter.starts_in_order c.loop-turn.turn 1 16 c.args.self.now c.loop-turn.self c.turn.new.self (omega arith) c.loop-turn.invariant.0 c.turn.ensures.accepts) gives

pub returns-in-Over-clause-accepts : goal.returns-in-Over-clause-accepts
returns-in-Over-clause-accepts g c = AcceptsIn-append g.I.Incoming.brings g.T.Starter.starts g.met.T.Starter.starts_nothing g.met.T.Starter.starts_in_order c.loop-turn.turn 1 16 c.args.self.now c.loop-turn.self c.turn.new.self (omega arith) c.loop-turn.invariant.0 c.turn.ensures.accepts

pub returns-in-Over-clause-value : goal.returns-in-Over-clause-value
returns-in-Over-clause-value g c = (16, c.turn.new.self, AcceptsIn-append g.I.Incoming.brings g.T.Starter.starts g.met.T.Starter.starts_nothing g.met.T.Starter.starts_in_order c.loop-turn.turn 1 16 c.args.self.now c.loop-turn.self c.turn.new.self (omega arith) c.loop-turn.invariant.0 c.turn.ensures.accepts, c.turn.ensures.over c.in-Over.end c.in-Over.is)

pub returns-clause-accepts : goal.returns-clause-accepts
returns-clause-accepts g c = AcceptsIn-more g.I.Incoming.brings g.T.Starter.starts g.met.T.Starter.starts_nothing g.met.T.Starter.starts_in_order c.loop-turn.turn 16 c.args.self.now c.loop-turn.self (omega arith) c.loop-turn.invariant.0

pub returns-clause-same : goal.returns-clause-same
returns-clause-same g c = rw c.yield_now.ensures.pending (λ end gives. AcceptGives-append g.I.Incoming.brings g.T.Starter.starts g.met.T.Starter.starts_nothing g.met.T.Starter.starts_in_order _ c.args.self.now c.loop-turn.self end c.loop-turn.invariant.0 gives)
