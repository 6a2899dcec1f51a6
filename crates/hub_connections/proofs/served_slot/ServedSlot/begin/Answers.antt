use Rattle.std.proofs.Common.{ap}
use Rattle.std.specs.Prelude.{is_some}
use Rattle.hub_connections.proofs.VisitCalls.{for-some, for-the-some}
use Rattle.hub_connections.proofs.served_slot.ServedSlot.begin.Goals as goal

pub invariant_of-self : goal.invariant_of-self
invariant_of-self g c = record {
  has_guest = λ session same. ap is_some c.replace.ensures.after;
  from = for-the-some _ c.replace.new.self c.args.guest c.replace.ensures.after c.requires.from;
  ends = for-some _ c.args.session (for-the-some _ c.replace.new.self c.args.guest c.replace.ensures.after c.requires.ends);
}
