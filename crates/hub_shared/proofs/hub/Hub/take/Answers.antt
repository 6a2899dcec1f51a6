use Rattle.std.proofs.Common.{ap, subst, sym, ℕ, Vec, Global}
use Rattle.hub_core.specs.Moves.{StandsAt}
use Rattle.hub_shared.proofs.Turns.{has-seat, take-stands, takes}
use Rattle.hub_shared.proofs.hub.Hub.take.Goals as goal

pub take-requires-clause-seated : goal.take-requires-clause-seated
take-requires-clause-seated g c =
    let lock = c.self.inside.lock in
    let seat = c.pass.inside.seat in
    has-seat lock.about.setup.value (g.H.SessionHash.digest_of lock.about.hash.value) c.acquire-core.new.seat.seen seat.mine c.deref_mut.result.now seat.number c.pass.inside.connection
    (subst (StandsAt lock.about.setup.value (g.H.SessionHash.digest_of lock.about.hash.value) c.acquire-core.new.seat.seen) (sym c.deref_mut.ensures.value) c.acquire-core.ensures.stands) c.acquire-core.ensures.entries c.pass.invariant.own

pub enter-requires-clause-stands : goal.enter-requires-clause-stands
enter-requires-clause-stands g c =
    let lock = c.self.inside.lock in
    let seat = c.pass.inside.seat in
    let taken = c.acquire-core.new.seat in
    let t = takes seat taken c.acquire-core.ensures.seat c.acquire-core.ensures.begins c.acquire-core.ensures.entries in
    take-stands lock.about.setup.value (g.H.SessionHash.digest_of lock.about.hash.value) taken.seen seat.mine c.deref_mut.result.now c.take.new.self taken.number c.pass.inside.connection c.args.count
    c.in-Ok.taken c.of-before.result.value.items c.of.result.value.items c.args.out.now.items c.take.new.out.items
    (ap (λ (v : Vec ℕ Global). v.items) c.of-before.ensures) (ap (λ (v : Vec ℕ Global). v.items) c.of.ensures)
    (subst (StandsAt lock.about.setup.value (g.H.SessionHash.digest_of lock.about.hash.value) c.acquire-core.new.seat.seen) (sym c.deref_mut.ensures.value) c.acquire-core.ensures.stands) t.own c.pass.invariant.own c.in-Ok.ensures.moves
