use Rattle.std.proofs.Common.{◌≡◌, ◌∙◌, sym, ap, ap₂, subst, map}
use Rattle.std.specs.Arc.{arc_value}
use Rattle.std.specs.List.{remove}
use Rattle.user_table.specs.Tables.{without_sid}
use Rattle.hub_core.specs.CoreState.{CoreState}
use Rattle.hub_core.specs.Index.{keys}
use Rattle.hub_core.specs.Departures.{left_core, others_of, told_of}
use Rattle.hub_core.specs.Phases.{stage_in}
use Rattle.hub_core.specs.Seats.{phase_in, sid_in}
use Rattle.hub_core.specs.Backlogs.{AreBeside, backlogs_of, given_each}
use Rattle.hub_core.proofs.Beside.{backlogs-told, beside-left, but-at, member-at, members-removed, others-at}
use Rattle.hub_core.proofs.Carried.{same-core}
use Rattle.hub_core.proofs.Indexed.{indexed-left, indexed-read, indexed-same}
use Rattle.hub_core.proofs.Numbers.{ordered-but, ordered-kept, other-number}
use Rattle.hub_core.proofs.Places.{StandsFirst, found-alike, phase-at, sid-at}
use Rattle.hub_rules.specs.Effects.{is_present}
use Rattle.shared_log.specs.Tables.{Table, is_member_at}
use Rattle.hub_core.proofs.hub.Core.leave.Goals as goal

pub returns : goal.returns
returns c =
    let seats : c.args.self.now.seats ≡ c.self.inside.seats.items = sym (ap (λ (s : CoreState). s.seats) c.self.view_is) in
    let at : StandsFirst c.args.number c.self.inside.seats.items c.args.place = found-alike c.args.number c.self.inside.seats.items c.args.self.now.seats c.args.place seats c.requires in
    let left : c.remove.new.self.items ≡ others_of c.args.number c.self.inside.seats.items =
    c.remove.ensures.items ∙ others-at c.args.number c.self.inside.seats.items c.args.place at (other-number c.args.number c.self.inside.seats.items c.args.place c.self.invariant.2.0 at) in
    let sid : c.index.result.now.sender.sid ≡ sid_in c.args.number c.self.inside.seats.items = sym (sid-at c.args.number c.self.inside.seats.items c.args.place c.index.result.now at c.index.ensures) in
    let here : is_member_at c.args.place c.self.inside.backlogs ≡ is_present (stage_in (phase_in c.args.number c.self.inside.seats.items)) =
    member-at c.self.inside.backlogs.rows c.self.inside.seats.items c.args.place c.index.result.now c.self.invariant.5.members at.within c.index.ensures
    ∙ ap (λ p. is_present (stage_in p)) (sym (phase-at c.args.number c.self.inside.seats.items c.args.place c.index.result.now at c.index.ensures)) in
    same-core (arc_value c.self.inside.setup) c.self.inside.joins c.self.inside.last left
    (ap (λ (t : Table). backlogs_of t.rows) c.quit.ensures
    ∙ backlogs-told c.index.result.now.sender.sid (is_member_at c.args.place c.self.inside.backlogs) (remove c.self.inside.seats.items c.args.place) (remove c.self.inside.backlogs.rows c.args.place)
    (members-removed c.args.place c.self.inside.backlogs.rows c.self.inside.seats.items c.self.invariant.5.members)
    ∙ ap₂ (λ b s. given_each (map (told_of b s) (remove c.self.inside.seats.items c.args.place)) (backlogs_of (remove c.self.inside.backlogs.rows c.args.place))) here sid
    ∙ ap₂ (λ ss os. given_each (map (told_of (is_present (stage_in (phase_in c.args.number c.self.inside.seats.items))) (sid_in c.args.number c.self.inside.seats.items)) ss) os)
    (others-at c.args.number c.self.inside.seats.items c.args.place at (other-number c.args.number c.self.inside.seats.items c.args.place c.self.invariant.2.0 at))
    (but-at c.args.number c.self.inside.seats.items c.self.inside.backlogs.rows c.args.place at))
    (c.remove-3.ensures.users ∙ ap (λ s. without_sid s c.self.inside.commons.present.users) sid)
    ∙ ap (left_core c.args.number) c.self.view_is

pub invariant_of-self : goal.invariant_of-self
invariant_of-self c =
    let seats : c.args.self.now.seats ≡ c.self.inside.seats.items = sym (ap (λ (s : CoreState). s.seats) c.self.view_is) in
    let at : StandsFirst c.args.number c.self.inside.seats.items c.args.place = found-alike c.args.number c.self.inside.seats.items c.args.self.now.seats c.args.place seats c.requires in
    let left : c.remove.new.self.items ≡ others_of c.args.number c.self.inside.seats.items =
    c.remove.ensures.items ∙ others-at c.args.number c.self.inside.seats.items c.args.place at (other-number c.args.number c.self.inside.seats.items c.args.place c.self.invariant.2.0 at) in
    let same : keys c.remove.new.self.items ≡ keys (others_of c.args.number c.self.inside.seats.items) = ap keys left in (
      c.self.invariant.0,
      c.self.invariant.1,
      ordered-kept c.self.inside.joins _ _ same (ordered-but c.self.inside.joins c.args.number c.self.inside.seats.items c.self.invariant.2),
      indexed-same c.remove-2.new.self _ _ same
          (indexed-left c.self.inside.index c.remove-2.new.self c.args.number c.index.result.now.sender.sid c.self.inside.seats.items c.remove-2.ensures
          (indexed-read c.self.inside.index c.args.number c.self.inside.seats.items c.args.place c.index.result.now at c.index.ensures c.self.invariant.3) c.self.invariant.3),
      c.remove-3.ensures.told (arc_value c.self.inside.setup) c.self.invariant.4,
      subst (AreBeside c.quit.new.self) (sym c.remove.ensures.items)
          (beside-left c.quit.new.self.settled c.args.place c.index.result.now.sender.sid c.self.inside.backlogs c.quit.new.self c.self.inside.seats.items c.quit.ensures c.self.invariant.5),
    )
