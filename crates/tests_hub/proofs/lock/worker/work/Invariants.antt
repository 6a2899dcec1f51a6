use Rattle.std.proofs.Common.{◌≡◌}
use Rattle.one_history.specs.States.{IsIdleAt}
use Rattle.tests_hub.proofs.lock.worker.work.Given as goal

abbrev pub invariant-loop-reply : goal.invariant-loop-reply
invariant-loop-reply g l = IsIdleAt l.lock l.seat × (l.caller ≡ l.seat.number)
