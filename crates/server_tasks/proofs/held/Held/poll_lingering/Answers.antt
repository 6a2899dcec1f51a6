use Rattle.std.proofs.Common.{◌≡◌, ◌≤◌, ◌<◌, arith, subst, Some, length, slice_get, get_or, inl, inr}
use Rattle.std.proofs.lemmas.Option.{slice_get-get_or}
use Rattle.server_tasks.specs.Lingers.{IsHeldOn}
use Rattle.server_tasks.proofs.Mapped.{one_more_related, all_related, all_written}
use Rattle.server_tasks.proofs.Still.{left_still}
use Rattle.server_tasks.proofs.held.Held.poll_lingering.Goals as goal

pub loop-place-preserved : goal.loop-place-preserved
loop-place-preserved g c =
    let lt : c.loop-place.place-index < length c.loop-place.place-items = grind (arith, c.loop-place-test.true, c.loop-place.auto.place-items) in (
      (λ fact held. c.hold_on.ensures.kept fact (c.loop-place.invariant.0 fact held)),
      one_more_related (IsHeldOn c.args.now c.args.is_end) c.args.self.now.places.items c.loop-place.place-items c.loop-place.place-index
          (get_or c.loop-place.place-items c.loop-place.place-index c.place-item.result) c.hold_on.new.place c.loop-place.invariant.1
          (slice_get-get_or c.loop-place.place-items c.loop-place.place-index c.place-item.result lt) c.hold_on.ensures.held,
    )

pub returns-clause-held : goal.returns-clause-held
returns-clause-held g c place was held got there =
    let all : _ = all_written c.loop-place.place-items c.args.self.now.places.items c.args.self.now.places.len c.args.self.now.places.ok.0 c.loop-place.invariant.1.0 in
    let past : length c.loop-place.place-items ≤ c.loop-place.place-index = grind (arith, c.loop-place-test.false, c.loop-place.auto.place-items) in
    all_related (IsHeldOn c.args.now c.args.is_end) c.args.self.now.places.items c.loop-place.place-items c.loop-place.place-index past
    c.loop-place.invariant.1 place was held got (subst (λ items. slice_get items place ≡ Some held) all there)

pub returns-clause-rests : goal.returns-clause-rests
returns-clause-rests g c =
    elim c.register.ensures.left [ inl lacks ↦ inl lacks | inr left ↦ inr (left_still c.args.cx.now c.loop-place.cx c.register.new.slot c.loop-place.invariant.0 left) ]
