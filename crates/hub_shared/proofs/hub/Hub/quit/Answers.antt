use Rattle.std.proofs.Common.{◌∙◌, ap, subst, sym}
use Rattle.hub_core.specs.Moves.{StandsAt, entry}
use Rattle.hub_rules.specs.declared.history.Call.TheVariants.{Quit}
use Rattle.hub_rules.specs.declared.history.Reply.TheVariants.{Left}
use Rattle.hub_shared.proofs.Turns.{given-names, has-seat, own-call, own-names, takes}
use Rattle.hub_shared.proofs.hub.Hub.quit.Goals as goal

pub quit-requires : goal.quit-requires
quit-requires g c =
    let lock = c.self.inside.lock in
    let parts = c.into_parts-seat in
    record {
      seated = has-seat lock.about.setup.value (g.H.SessionHash.digest_of lock.about.hash.value) c.acquire-core.new.seat.seen parts.result.0.mine c.deref_mut.result.now parts.result.0.number parts.result.1
          (subst (StandsAt lock.about.setup.value (g.H.SessionHash.digest_of lock.about.hash.value) c.acquire-core.new.seat.seen) (sym c.deref_mut.ensures.value) c.acquire-core.ensures.stands) c.acquire-core.ensures.entries parts.ensures.pass.own;
    }

pub enter-requires-clause-stands : goal.enter-requires-clause-stands
enter-requires-clause-stands g c =
    let lock = c.self.inside.lock in
    let parts = c.into_parts-seat in
    let taken = c.acquire-core.new.seat in
    let t = takes parts.result.0 taken c.acquire-core.ensures.seat c.acquire-core.ensures.begins c.acquire-core.ensures.entries in
    own-call lock.about.setup.value (g.H.SessionHash.digest_of lock.about.hash.value) taken.seen parts.result.0.mine c.deref_mut.result.now c.quit.new.self taken.number parts.result.1 (Quit parts.result.1) Left
    (subst (StandsAt lock.about.setup.value (g.H.SessionHash.digest_of lock.about.hash.value) c.acquire-core.new.seat.seen) (sym c.deref_mut.ensures.value) c.acquire-core.ensures.stands) t.own parts.ensures.pass.own (λ may. may) c.quit.ensures.moves

pub returns-clause-touched : goal.returns-clause-touched
returns-clause-touched g c =
    let lock = c.self.inside.lock in
    let parts = c.into_parts-seat in
    let taken = c.acquire-core.new.seat in
    let t = takes parts.result.0 taken c.acquire-core.ensures.seat c.acquire-core.ensures.begins c.acquire-core.ensures.entries in
    given-names g.H.SessionHash.digest_of lock c.args.self.now (entry taken.number (Quit parts.result.1) Left) taken c.enter.new.seat
    c.touched-touched.result c.quit.new.self.touched c.self.view_is c.enter.ensures.seat (c.touched-touched.ensures ∙ ap (λ core. core.touched) c.deref.ensures)
    (own-names lock.about.setup.value (g.H.SessionHash.digest_of lock.about.hash.value) taken.seen parts.result.0.mine c.deref_mut.result.now c.quit.new.self taken.number parts.result.1 (Quit parts.result.1) Left
    (subst (StandsAt lock.about.setup.value (g.H.SessionHash.digest_of lock.about.hash.value) c.acquire-core.new.seat.seen) (sym c.deref_mut.ensures.value) c.acquire-core.ensures.stands) t.own parts.ensures.pass.own (λ may. may) c.quit.ensures.touched)
