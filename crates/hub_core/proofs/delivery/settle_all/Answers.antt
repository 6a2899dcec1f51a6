use Rattle.std.proofs.Common.{sym, ap, subst, length, arith}
use Rattle.hub_core.specs.Deliveries.{WaitsAs}
use Rattle.hub_core.proofs.Settling.{more-settled, waits-self, waits-settled, waits-then}
use Rattle.hub_core.proofs.delivery.settle_all.Goals as goal

pub loop-place-init : goal.loop-place-init
loop-place-init c = (waits-self c.args.backlogs.now, λ place less. absurd (omega (arith, less)))

pub settle-requires : goal.settle-requires
settle-requires c = omega (arith, c.loop-place-test.true, c.len-place-end.ensures, ap length c.loop-place.invariant.0.rows)

pub returns-in_err-settle-clause-kept : goal.returns-in_err-settle-clause-kept
returns-in_err-settle-clause-kept c = subst (WaitsAs c.args.backlogs.now) (sym c.in_err-settle.ensures.err) c.loop-place.invariant.0

pub loop-place-preserved : goal.loop-place-preserved
loop-place-preserved c = (
  waits-then c.loop-place.invariant.0 (waits-settled c.loop-place.place c.loop-place.backlogs c.settle.new.self c.in_ok-settle.ensures.ok),
  more-settled c.loop-place.place c.loop-place.backlogs c.settle.new.self c.in_ok-settle.ensures.ok c.in_ok-settle.ensures.settled c.loop-place.invariant.1,
)

pub returns-clause-kept : goal.returns-clause-kept
returns-clause-kept c = c.loop-place.invariant.0

pub returns-clause-settled : goal.returns-clause-settled
returns-clause-settled c place within =
    c.loop-place.invariant.1 place (omega (arith, within, c.loop-place-test.false, c.len-place-end.ensures, ap length c.loop-place.invariant.0.rows))
