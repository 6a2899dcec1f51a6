use Rattle.std.proofs.Common.{◌≡◌, ◌∙◌, refl, sym, subst, ap, ap₂, set, length, map, get_or, false}
use Rattle.std.specs.Arc.{arc_value}
use Rattle.std.specs.Vec.{with_item, with_items}
use Rattle.std.proofs.lemmas.List.{length-map, length-set, with_items_is}
use Rattle.hub_core.specs.CoreState.{CoreState}
use Rattle.hub_core.specs.Deliveries.{IsDelivery, delivered, named_in}
use Rattle.hub_core.specs.Index.{keys}
use Rattle.hub_core.specs.Seats.{changed_seat, seat_after_change_at}
use Rattle.hub_core.specs.State.{carried_out}
use Rattle.hub_core.specs.Told.{AreTold}
use Rattle.hub_core.specs.Backlogs.{AreBeside, backlogs_of, here_in, members_of}
use Rattle.hub_core.proofs.Beside.{beside-again, beside-delivered, even, here-set, named-is}
use Rattle.hub_core.proofs.Carried.{carried-as}
use Rattle.hub_core.proofs.Indexed.{indexed-same, keys-changed, keys-named}
use Rattle.hub_core.proofs.Numbers.{ordered-kept, other-number}
use Rattle.hub_core.proofs.Owed.{none-changed}
use Rattle.hub_core.proofs.Places.{StandsFirst, found-alike, set-read}
use Rattle.hub_core.proofs.Rows.{backlogs-delivered}
use Rattle.shared_log.specs.Tables.{at_place}
use Rattle.hub_core.proofs.hub.Core.carry_out.Goals as goal

pub returns-clause-ok : goal.returns-clause-ok
returns-clause-ok c =
    let seats : c.args.self.now.seats ≡ c.self.inside.seats.items = sym (ap (λ (s : CoreState). s.seats) c.self.view_is) in
    let at : StandsFirst c.args.number c.self.inside.seats.items c.args.place = found-alike c.args.number c.self.inside.seats.items c.args.self.now.seats c.args.place seats c.requires in
    let is : IsDelivery c.in_ok-delivery.delivery c.args.place c.args.number c.args.effect c.self.inside.seats.items =
    subst (IsDelivery c.in_ok-delivery.delivery c.args.place c.args.number c.args.effect) c.deref.ensures.value c.in_ok-delivery.ensures in
    ap (λ seats. record { setup = arc_value c.self.inside.setup; joins = c.self.inside.joins; last = c.self.inside.last; seats = seats; backlogs = backlogs_of c.deliver.new.backlogs.rows; users = c.change.new.self.present.users; bans = c.change.new.self.bans; topic = c.change.new.self.topic; touched = c.self.inside.touched })
    (with_items_is (with_item c.self.inside.seats c.args.place c.change.new.seat) c.deliver.new.seats
    (ap length c.deliver.ensures.seats ∙ length-map c.deref_mut.result.now (seat_after_change_at (named_in c.in_ok-delivery.delivery)) ∙ c.deref_mut.ensures.len))
    ∙ carried-as (record { setup = arc_value c.self.inside.setup; joins = c.self.inside.joins; last = c.self.inside.last; seats = c.self.inside.seats.items; backlogs = backlogs_of c.self.inside.backlogs.rows; users = c.self.inside.commons.present.users; bans = c.self.inside.commons.bans; topic = c.self.inside.commons.topic; touched = c.self.inside.touched })
    c.args.number c.args.effect c.args.place c.index_mut-seat.result.now c.change.new.seat c.deliver.new.seats (backlogs_of c.deliver.new.backlogs.rows)
    c.change.new.self.present.users c.change.new.self.bans c.change.new.self.topic
    at c.index_mut-seat.ensures.value
    c.in_ok-change.ensures.seat
    (c.deliver.ensures.seats
    ∙ ap₂ (λ named ss. map (seat_after_change_at named) ss)
    (named-is c.in_ok-delivery.delivery c.args.place c.args.number c.args.effect c.self.inside.seats.items is) c.deref_mut.ensures.value)
    (ap backlogs_of c.deliver.ensures.backlogs.rows
    ∙ ap (λ rows. backlogs_of (delivered c.in_ok-delivery.delivery c.args.place (here_in c.deliver.new.seats) rows)) c.prepare.ensures.kept.rows
    ∙ backlogs-delivered c.args.number c.args.place c.args.effect c.self.inside.seats.items c.self.inside.backlogs.rows (here_in c.deliver.new.seats) at.within
    (sym (even c.self.inside.backlogs c.self.inside.seats.items c.self.invariant.5)) c.self.invariant.5.members
    (other-number c.args.number c.self.inside.seats.items c.args.place c.self.invariant.2.0 at) c.in_ok-delivery.delivery is)
    c.in_ok-change.ensures.users c.in_ok-change.ensures.bans c.in_ok-change.ensures.topic
    ∙ ap (carried_out c.args.number c.args.effect) c.self.view_is

pub invariant_of-self-2 : goal.invariant_of-self-2
invariant_of-self-2 c =
    let seats : c.args.self.now.seats ≡ c.self.inside.seats.items = sym (ap (λ (s : CoreState). s.seats) c.self.view_is) in
    let at : StandsFirst c.args.number c.self.inside.seats.items c.args.place = found-alike c.args.number c.self.inside.seats.items c.args.self.now.seats c.args.place seats c.requires in
    let items : (with_items (with_item c.self.inside.seats c.args.place c.change.new.seat) c.deliver.new.seats).items ≡ c.deliver.new.seats =
    with_items_is (with_item c.self.inside.seats c.args.place c.change.new.seat) c.deliver.new.seats
    (ap length c.deliver.ensures.seats ∙ length-map c.deref_mut.result.now (seat_after_change_at (named_in c.in_ok-delivery.delivery)) ∙ c.deref_mut.ensures.len) in
    let same : keys (with_items (with_item c.self.inside.seats c.args.place c.change.new.seat) c.deliver.new.seats).items ≡ keys c.self.inside.seats.items =
    ap keys items ∙ ap keys c.deliver.ensures.seats ∙ keys-named (named_in c.in_ok-delivery.delivery) c.deref_mut.result.now
    ∙ ap keys (c.deref_mut.ensures.value
    ∙ set-read c.args.number (changed_seat c.args.effect.change) c.self.inside.seats.items c.args.place c.index_mut-seat.result.now c.change.new.seat at c.index_mut-seat.ensures.value
    c.in_ok-change.ensures.seat)
    ∙ keys-changed c.args.number (changed_seat c.args.effect.change) (λ seat. refl) c.self.inside.seats.items in
    let many : length c.deliver.new.seats ≡ length c.prepare.new.backlogs.rows =
    ap length c.deliver.ensures.seats ∙ length-map c.deref_mut.result.now (seat_after_change_at (named_in c.in_ok-delivery.delivery))
    ∙ ap length c.deref_mut.ensures.value ∙ length-set c.self.inside.seats.items c.args.place c.change.new.seat
    ∙ sym (ap length c.prepare.ensures.kept.rows ∙ even c.self.inside.backlogs c.self.inside.seats.items c.self.invariant.5) in
    let beside : AreBeside c.prepare.new.backlogs c.self.inside.seats.items = beside-again c.self.inside.backlogs c.prepare.new.backlogs c.self.inside.seats.items c.prepare.ensures.kept c.self.invariant.5 in (
      c.self.invariant.0,
      c.self.invariant.1,
      ordered-kept c.self.inside.joins _ _ same c.self.invariant.2,
      indexed-same c.self.inside.index _ _ same c.self.invariant.3,
      subst (λ setup. AreTold setup c.change.new.self.present) c.deref-2.ensures
          (c.in_ok-change.ensures.told (subst (λ setup. AreTold setup c.self.inside.commons.present) (sym c.deref-2.ensures) c.self.invariant.4)),
      subst (AreBeside c.deliver.new.backlogs) (sym items)
          (beside-delivered c.args.place c.in_ok-delivery.delivery c.prepare.new.backlogs c.deliver.new.backlogs c.self.inside.seats.items c.deliver.new.seats c.deliver.ensures.backlogs many
          (λ none.
          let alone : c.deliver.new.seats ≡ set c.self.inside.seats.items c.args.place c.change.new.seat =
          c.deliver.ensures.seats ∙ ap (λ named. map (seat_after_change_at named) c.deref_mut.result.now) none ∙ none-changed c.deref_mut.result.now ∙ c.deref_mut.ensures.value in
          subst (λ ss. at_place c.args.place (λ _. get_or (here_in ss) c.args.place false) (members_of c.prepare.new.backlogs.rows) ≡ here_in ss) (sym alone)
          (here-set c.args.place c.self.inside.seats.items c.change.new.seat c.prepare.new.backlogs.rows at.within beside.members))
          beside),
    )
