use Rattle.std.proofs.Common.{◌∙◌, ap, sym, subst, ◌∷◌}
use Rattle.hub_core.specs.Moves.{StandsAt, entry}
use Rattle.hub_core.specs.TouchedSids.{NamesConcerned}
use Rattle.hub_rules.specs.declared.history.Call.TheVariants.{Line}
use Rattle.hub_rules.specs.declared.history.Reply.TheVariants.{Said}
use Rattle.hub_rules.specs.Views.{PreparedLine}
use Rattle.hub_shared.proofs.Turns.{given-names, has-seat, line-names, line-stands, ready, takes}
use Rattle.hub_shared.proofs.hub.Hub.line.Goals as goal

pub line-requires : goal.line-requires
line-requires g c =
    let lock = c.self.inside.lock in
    let seat = c.pass.inside.seat in
    record {
      seated = has-seat lock.about.setup.value (g.H.SessionHash.digest_of lock.about.hash.value) c.acquire-core.new.seat.seen seat.mine c.deref_mut.result.now seat.number c.pass.inside.connection
          (subst (StandsAt lock.about.setup.value (g.H.SessionHash.digest_of lock.about.hash.value) c.acquire-core.new.seat.seen) (sym c.deref_mut.ensures.value) c.acquire-core.ensures.stands) c.acquire-core.ensures.entries c.pass.invariant.own;
    }

pub enter-requires-clause-stands : goal.enter-requires-clause-stands
enter-requires-clause-stands g c =
    let lock = c.self.inside.lock in
    let seat = c.pass.inside.seat in
    let taken = c.acquire-core.new.seat in
    let hash = g.H.SessionHash.digest_of lock.about.hash.value in
    let t = takes seat taken c.acquire-core.ensures.seat c.acquire-core.ensures.begins c.acquire-core.ensures.entries in
    let stands = subst (StandsAt lock.about.setup.value hash taken.seen) (sym c.deref_mut.ensures.value) c.acquire-core.ensures.stands in
    let line = ready g.H.SessionHash.digest_of lock c.args.self.now seat c.pass.inside.connection c.pass.inside.touched c.args.pass.now c.self.view_is c.pass.view_is c.args.line.now c.requires.prepared in
    subst (λ (l : PreparedLine). StandsAt lock.about.setup.value hash (entry taken.number (Line c.pass.inside.connection l.bytes c.args.now) (Said c.in-Ok.verdict) ∷ taken.seen) c.line.new.self)
    (sym c.of.ensures)
    (line-stands lock.about.setup.value hash taken.seen seat.mine c.deref_mut.result.now c.line.new.self taken.number c.pass.inside.connection c.args.line.now c.args.now
    c.in-Ok.verdict stands t.own c.pass.invariant.own line c.in-Ok.ensures.moves)

pub returns-in-Ok-clause-touched : goal.returns-in-Ok-clause-touched
returns-in-Ok-clause-touched g c =
    let lock = c.self.inside.lock in
    let seat = c.pass.inside.seat in
    let taken = c.acquire-core.new.seat in
    let hash = g.H.SessionHash.digest_of lock.about.hash.value in
    let t = takes seat taken c.acquire-core.ensures.seat c.acquire-core.ensures.begins c.acquire-core.ensures.entries in
    let stands = subst (StandsAt lock.about.setup.value hash taken.seen) (sym c.deref_mut.ensures.value) c.acquire-core.ensures.stands in
    let line = ready g.H.SessionHash.digest_of lock c.args.self.now seat c.pass.inside.connection c.pass.inside.touched c.args.pass.now c.self.view_is c.pass.view_is c.args.line.now c.requires.prepared in
    given-names g.H.SessionHash.digest_of lock c.args.self.now (entry taken.number (Line c.pass.inside.connection c.of.result.value.bytes c.args.now) (Said c.in-Ok.verdict)) taken c.enter.new.seat
    c.touched-pass-inside.result c.line.new.self.touched c.self.view_is c.enter.ensures.seat (c.touched-pass-inside.ensures ∙ ap (λ core. core.touched) c.deref.ensures)
    (subst (λ (l : PreparedLine). NamesConcerned c.line.new.self.touched lock.about.setup.value hash (entry taken.number (Line c.pass.inside.connection l.bytes c.args.now) (Said c.in-Ok.verdict) ∷ taken.seen))
    (sym c.of.ensures)
    (line-names lock.about.setup.value hash taken.seen seat.mine c.deref_mut.result.now c.line.new.self taken.number c.pass.inside.connection c.args.line.now c.args.now
    (Said c.in-Ok.verdict) stands t.own c.pass.invariant.own line c.in-Ok.ensures.touched))
