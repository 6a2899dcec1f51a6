use Rattle.std.proofs.Common.{◌≡◌, ◌∙◌, ◌<◌, refl, sym, ap, ap₂, length, take, arith}
use Rattle.std.specs.Arc.{arc_value}
use Rattle.std.specs.List.{concat}
use Rattle.outboxes.specs.Backlogs.{Backlog}
use Rattle.hub_core.specs.declared.share.Touched.TheVariants.{Nobody}
use Rattle.hub_core.specs.CoreState.{CoreState, noted}
use Rattle.hub_core.specs.Departures.{core_after_take}
use Rattle.hub_core.specs.Phases.{stage_in}
use Rattle.hub_core.specs.Seats.{phase_in}
use Rattle.hub_core.specs.Backlogs.{backlog_in, backlogs_of, ends_by}
use Rattle.hub_core.proofs.Beside.{backlog-at, beside-taken, even, taken-at}
use Rattle.hub_core.proofs.Concerned.{take-touches}
use Rattle.hub_core.proofs.Places.{StandsFirst, found-alike, phase-at}
use Rattle.hub_core.proofs.NextHistory.{take-moves}
use Rattle.hub_rules.specs.Effects.{is_over}
use Rattle.shared_log.specs.Tables.{backlog_at}
use Rattle.hub_core.proofs.hub.Core.take.Goals as goal

pub returns-clause-moves : goal.returns-clause-moves
returns-clause-moves c =
    let at : StandsFirst c.connection.inside.number c.self.inside.seats.items c.place-place.result =
    found-alike c.connection.inside.number c.self.inside.seats.items c.deref.result.now c.place-place.result c.deref.ensures.value c.place-place.ensures in
    let within : c.place-place.result < length c.self.inside.backlogs.rows = omega (arith, at.within, even c.self.inside.backlogs c.self.inside.seats.items c.self.invariant.5) in
    let waits : backlog_at c.place-place.result c.self.inside.backlogs ≡ backlog_in c.args.connection c.args.self.now.seats c.args.self.now.backlogs =
    sym (backlog-at c.connection.inside.number c.self.inside.seats.items c.self.inside.backlogs.rows c.place-place.result at within)
    ∙ ap₂ (λ n (s : CoreState). backlog_in n s.seats s.backlogs) c.connection.view_is c.self.view_is in
    let over : c.is_over-is_over.result ≡ is_over (stage_in (phase_in c.args.connection c.args.self.now.seats)) =
    c.is_over-is_over.ensures
    ∙ ap (λ p. is_over (stage_in p)) (sym (phase-at c.connection.inside.number c.self.inside.seats.items c.place-place.result c.index.result.now at c.index.ensures))
    ∙ ap₂ (λ n (s : CoreState). is_over (stage_in (phase_in n s.seats))) c.connection.view_is c.self.view_is in (
      concat (take c.args.count (backlog_at c.place-place.result c.self.inside.backlogs).lines),
      c.in_ok-taken.ensures.bytes,
      take-moves _ _ _ _ _ _ _ Nobody
          (ap (λ os. record { setup = arc_value c.self.inside.setup; joins = c.self.inside.joins; last = c.self.inside.last; seats = c.self.inside.seats.items; backlogs = os; users = c.self.inside.commons.present.users; bans = c.self.inside.commons.bans; topic = c.self.inside.commons.topic; touched = Nobody })
          (ap backlogs_of c.in_ok-taken.ensures.ok.rows ∙ taken-at c.connection.inside.number c.args.count c.self.inside.seats.items c.self.inside.backlogs.rows c.place-place.result at)
          ∙ ap₂ (λ n (core : CoreState). noted Nobody (core_after_take n c.args.count core)) c.connection.view_is c.self.view_is)
          (ap (λ (o : Backlog). concat (take c.args.count o.lines)) waits)
          (c.in_ok-taken.ensures.lines ∙ ap (λ (o : Backlog). length (take c.args.count o.lines)) waits)
          (c.in_ok-taken.ensures.ended ∙ ap₂ (λ b (o : Backlog). ends_by b c.args.count o) over waits),
    )

pub returns-clause-touched : goal.returns-clause-touched
returns-clause-touched c = (
  refl,
  take-touches c.args.self.now
      (record { setup = arc_value c.self.inside.setup; joins = c.self.inside.joins; last = c.self.inside.last; seats = c.self.inside.seats.items; backlogs = backlogs_of c.take_lines.new.backlogs.rows; users = c.self.inside.commons.present.users; bans = c.self.inside.commons.bans; topic = c.self.inside.commons.topic; touched = Nobody })
      c.args.connection c.args.count,
)

pub invariant_of-self-2 : goal.invariant_of-self-2
invariant_of-self-2 c = (
  c.self.invariant.0,
  c.self.invariant.1,
  c.self.invariant.2,
  c.self.invariant.3,
  c.self.invariant.4,
  beside-taken c.args.count c.place-place.result c.self.inside.backlogs c.take_lines.new.backlogs c.self.inside.seats.items c.in_ok-taken.ensures.ok c.self.invariant.5,
)
