use Rattle.std.proofs.Common.{◌≡◌, ◌∙◌, sym, ap, refl, subst, true, length, arith, Some}
use Rattle.std.specs.Prelude.{slice_get}
use Rattle.hub_core.proofs.Rows.{length-at, member-past, member-set, members-end}
use Rattle.shared_log.specs.Tables.{Table, with_membership}
use Rattle.hub_core.proofs.delivery.set_members.Goals as goal
use Rattle.hub_core.proofs.delivery.set_members.Goals.{then-place-len, else-place-len}

pub loop-place-init : goal.loop-place-init
loop-place-init c = (refl, refl, refl)

pub set_member-requires : goal.set_member-requires
set_member-requires c =
    subst (λ bs. slice_get bs c.loop-place.place ≡ Some true) (sym c.loop-place.invariant.1)
    (c.requires c.loop-place.place (omega (arith, c.if-place-len.true, c.len.ensures, c.loop-place.invariant.2)))

pub loop-place-preserved : goal.loop-place-preserved
loop-place-preserved c =
    elim c.if-place-len.branch [
      | then-place-len w ↦
          let new : c.if-place-len.backlogs ≡ _ = w.backlogs-is ∙ w.set_member.ensures in (
            member-set c.loop-place.place c.args.seats.now c.index-seats-place.result _ c.loop-place.backlogs c.if-place-len.backlogs w.is_present.result c.loop-place-test.true c.index-seats-place.is
                w.is_present.ensures c.loop-place.invariant.0 new,
            ap (λ (t : Table). t.settled) new ∙ c.loop-place.invariant.1,
            ap (λ (t : Table). length t.rows) new ∙ length-at (with_membership w.is_present.result) c.loop-place.place c.loop-place.backlogs.rows ∙ c.loop-place.invariant.2,
          )
      | else-place-len w ↦ (
        member-past c.loop-place.place c.args.seats.now c.index-seats-place.result _ c.loop-place.backlogs c.if-place-len.backlogs c.loop-place-test.true
            (omega (arith, w.if-place-len.false, c.len.ensures)) c.loop-place.invariant.0 w.backlogs-is,
        ap (λ (t : Table). t.settled) w.backlogs-is ∙ c.loop-place.invariant.1,
        ap (λ (t : Table). length t.rows) w.backlogs-is ∙ c.loop-place.invariant.2,
      )
    ]

pub returns : goal.returns
returns c = members-end c.loop-place.place c.args.seats.now _ c.loop-place.backlogs c.loop-place-test.false c.loop-place.invariant.0
