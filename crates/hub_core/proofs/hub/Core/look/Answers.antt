use Rattle.std.proofs.Common.{◌∙◌, ◌<◌, sym, ap, length, arith}
use Rattle.outboxes.specs.Backlogs.{Backlog}
use Rattle.user_table.specs.declared.totals.Totals.{Totals}
use Rattle.hub_core.specs.CoreState.{CoreState}
use Rattle.hub_core.specs.Phases.{stage_in}
use Rattle.hub_core.specs.Backlogs.{backlog_in}
use Rattle.hub_core.proofs.Beside.{backlog-at, even}
use Rattle.hub_core.proofs.Places.{at-core, phase-at}
use Rattle.hub_core.proofs.NextHistory.{look-told}
use Rattle.hub_core.proofs.hub.Core.look.Goals as goal

pub returns : goal.returns
returns c =
    let at = at-core c.args.self.now.seats c.args.connection c.connection.inside.number c.self.inside.seats.items c.deref.result.now c.place-place.result c.index.result.now
    c.deref.ensures.value (ap (λ (s : CoreState). s.seats) c.self.view_is) c.connection.view_is c.place-place.ensures c.index.ensures in
    let within : c.place-place.result < length c.self.inside.backlogs.rows =
    omega (arith, at.0.within, ap (λ (s : CoreState). length s.seats) c.self.view_is, even c.self.inside.backlogs c.self.inside.seats.items c.self.invariant.5) in
    look-told c.args.self.now c.args.connection (record { stage = c.stage.result; present = c.totals.result.users; waiting = c.waiting.result })
    (c.stage.ensures ∙ ap stage_in (sym (phase-at c.args.connection c.args.self.now.seats c.place-place.result c.index.result.now at.0 at.1)))
    (ap (λ (t : Totals). t.users) c.totals.ensures ∙ ap (λ (s : CoreState). length s.users) c.self.view_is)
    (c.waiting.ensures
    ∙ ap (λ (o : Backlog). length o.lines)
    (sym (backlog-at c.args.connection c.args.self.now.seats c.self.inside.backlogs.rows c.place-place.result at.0 within)
    ∙ ap (λ (s : CoreState). backlog_in c.args.connection c.args.self.now.seats s.backlogs) c.self.view_is))
    c.requires.seated
