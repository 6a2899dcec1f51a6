use Rattle.std.proofs.Common.{sym, ap}
use Rattle.hub_core.specs.CoreState.{CoreState}
use Rattle.hub_core.proofs.Places.{at-core, sid-at}
use Rattle.hub_core.proofs.NextHistory.{sid-told}
use Rattle.hub_core.proofs.hub.Core.sid.Goals as goal

pub returns : goal.returns
returns c =
    let at = at-core c.args.self.now.seats c.args.connection c.connection.inside.number c.self.inside.seats.items c.deref.result.now c.place.result c.index.result.now
    c.deref.ensures.value (ap (λ (s : CoreState). s.seats) c.self.view_is) c.connection.view_is c.place.ensures c.index.ensures in
    sid-told _ _ _ (sym (sid-at c.args.connection c.args.self.now.seats c.place.result c.index.result.now at.0 at.1)) c.requires.seated
