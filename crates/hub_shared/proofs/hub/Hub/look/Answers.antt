use Rattle.std.proofs.Common.{subst, sym}
use Rattle.hub_core.specs.Moves.{StandsAt}
use Rattle.hub_shared.proofs.Turns.{has-seat}
use Rattle.hub_shared.proofs.hub.Hub.look.Goals as goal

pub look-look-requires : goal.look-look-requires
look-look-requires g c =
    let lock = c.self.inside.lock in
    let seat = c.pass.inside.seat in
    record {
      seated = has-seat lock.about.setup.value (g.H.SessionHash.digest_of lock.about.hash.value) c.acquire-core.new.seat.seen seat.mine c.deref.result.now seat.number c.pass.inside.connection
          (subst (StandsAt lock.about.setup.value (g.H.SessionHash.digest_of lock.about.hash.value) c.acquire-core.new.seat.seen) (sym c.deref.ensures) c.acquire-core.ensures.stands) c.acquire-core.ensures.entries c.pass.invariant.own;
    }
