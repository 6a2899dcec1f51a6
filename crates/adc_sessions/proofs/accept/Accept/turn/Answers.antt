use Rattle.std.proofs.Common.{rules}
use Rattle.adc_sessions.specs.AcceptEnds.{LeavesAfter}
use Rattle.adc_sessions.proofs.Counts.{PartsIn-came, PartsIn-failed, PartsIn-waited}
use Rattle.adc_sessions.proofs.accept.Accept.turn.Goals as goal

pub returns-in-Ready-Ok-clause-accepts : goal.returns-in-Ready-Ok-clause-accepts
returns-in-Ready-Ok-clause-accepts g c =
    let left : LeavesAfter c.args.self.now.left 1 c.match-self.left = search rules in
    PartsIn-came g.I.Incoming.brings g.T.Starter.starts g.met.T.Starter.starts_nothing g.met.T.Starter.starts_in_order _ _ _ _ _ _ _ _ _ (rw c.in-Ready-Ok.field-0-is at c.in-Ready-Ok.ensures.brings) c.start.ensures left

pub returns-in-Ready-Err-clause-accepts : goal.returns-in-Ready-Err-clause-accepts
returns-in-Ready-Err-clause-accepts g c = PartsIn-failed g.I.Incoming.brings g.T.Starter.starts g.met.T.Starter.starts_nothing g.met.T.Starter.starts_in_order _ _ _ _ _ (rw c.in-Ready-Err.field-0-is at c.in-Ready-Err.ensures.brings)

pub returns-in-Pending-clause-accepts : goal.returns-in-Pending-clause-accepts
returns-in-Pending-clause-accepts g c = PartsIn-waited g.I.Incoming.brings g.T.Starter.starts g.met.T.Starter.starts_nothing g.met.T.Starter.starts_in_order _ _ _ _ _ c.in-Pending.ensures.brings
