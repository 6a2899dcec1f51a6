use Rattle.std.proofs.Common.{◌≡◌, ◌∙◌, sym, ap, subst, map, Some}
use Rattle.hub_core.specs.declared.delivery.Delivery.{Delivery}
use Rattle.hub_core.specs.declared.delivery.Delivery.TheVariants.{Each}
use Rattle.hub_core.specs.Deliveries.{AreReady, named_in}
use Rattle.hub_core.specs.Seats.{seat_after_change_at}
use Rattle.hub_core.proofs.Owed.{none-changed}
use Rattle.hub_core.proofs.Settling.{settled-given}
use Rattle.hub_core.proofs.delivery.deliver.Goals as goal

pub set_members-requires : goal.set_members-requires
set_members-requires c =
    let is : c.args.delivery ≡ Each c.in-Each.shares (Some (c.in-Some.sid, c.in-Some.change)) = c.in-Each.is ∙ ap (Each c.in-Each.shares) c.in-Some.is in
    settled-given _ c.args.backlogs.now c.give_each.new.backlogs c.give_each.ensures (subst (λ (d : Delivery). AreReady d c.args.place c.args.backlogs.now) is c.requires.ready).1

pub returns-in-All-clause-seats : goal.returns-in-All-clause-seats
returns-in-All-clause-seats c =
    sym (ap (λ (d : Delivery). map (seat_after_change_at (named_in d)) c.args.seats.now) c.in-All.is ∙ none-changed c.args.seats.now)

pub returns-in-None-clause-seats : goal.returns-in-None-clause-seats
returns-in-None-clause-seats c =
    sym (ap (λ (d : Delivery). map (seat_after_change_at (named_in d)) c.args.seats.now) (c.in-Each.is ∙ ap (Each c.in-Each.shares) c.in-None.is) ∙ none-changed c.args.seats.now)
