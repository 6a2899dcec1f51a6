use Rattle.std.proofs.Common.{◌∙◌, sym, ap, subst}
use Rattle.std.specs.Prelude.{OnOk}
use Rattle.hub_core.specs.declared.delivery.Delivery.{Delivery}
use Rattle.hub_core.specs.declared.delivery.Delivery.TheVariants.{Each}
use Rattle.hub_core.specs.Deliveries.{AreReady, AreSettled, HaveRoom}
use Rattle.hub_core.proofs.Settling.{all-room, all-settled, room-after, then-both}
use Rattle.shared_log.specs.Tables.{Table}
use Rattle.hub_core.proofs.delivery.prepare.Goals as goal
use Rattle.hub_core.proofs.delivery.prepare.Goals.{in-All+in_ok-reserve-in-All, in-Each+in-Some+in_ok-settle_all-in-Some, in-Each+in-None+in_ok-settle_each-in-None}

pub returns-clause-ready : goal.returns-clause-ready
returns-clause-ready c =
    elim c.match-delivery.branch [
      | in-All+in_ok-reserve-in-All w ↦
          subst (λ (d : Delivery). OnOk c.settle.result (AreReady d c.args.place c.settle.new.self)) (sym w.in-All.is)
          (then-both c.settle.result c.settle.ensures.ok c.settle.ensures.settled
          (λ is settled. (ap (λ (t : Table). t.is_ready) is ∙ ap (λ (t : Table). t.is_ready) (w.backlogs-is ∙ w.in_ok-reserve-in-All.ensures.ok), settled)))
      | in-Each+in-Some+in_ok-settle_all-in-Some w ↦
          subst (λ (d : Delivery). OnOk c.settle.result (AreReady d c.args.place c.settle.new.self)) (sym (w.in-Each.is ∙ ap (Each w.in-Each.shares) w.in-Some.is))
          (then-both c.settle.result c.settle.ensures.ok c.settle.ensures.settled
          (λ is settled.
          let all : AreSettled c.settle.new.self =
          all-settled c.args.place c.match-delivery.backlogs c.settle.new.self is (subst AreSettled (sym w.backlogs-is) w.in_ok-settle_all-in-Some.ensures.settled) in
          (all-room w.in-Each.shares.items c.settle.new.self all, all)))
      | in-Each+in-None+in_ok-settle_each-in-None w ↦
          subst (λ (d : Delivery). OnOk c.settle.result (AreReady d c.args.place c.settle.new.self)) (sym (w.in-Each.is ∙ ap (Each w.in-Each.shares) w.in-None.is))
          (then-both c.settle.result c.settle.ensures.ok c.settle.ensures.settled
          (λ is settled. (
            room-after c.args.place _ c.match-delivery.backlogs c.settle.new.self is (subst (HaveRoom w.in-Each.shares.items) (sym w.backlogs-is) (subst (λ ss. HaveRoom ss w.settle_each.new.backlogs) w.deref.ensures.value w.in_ok-settle_each-in-None.ensures.settled)),
            settled,
          )))
    ]
