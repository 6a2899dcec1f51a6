use Rattle.std.proofs.Common.{◌≡◌, ◌+◌, ◌++◌, ◌∷◌, [], sym, subst, ap, ◌∙◌, take, List, add-one, suc}
use Rattle.std.proofs.Math.Seq.{take-suc}
use Rattle.server_tasks.specs.Clients.{IsSightOf, seen_with}
use Rattle.server_tasks.specs.declared.slots.Slot.{Slot}
use Rattle.server_tasks.proofs.Seen.{sight_more}
use Rattle.server_tasks.proofs.slots.Slots.sight_of.Goals as goal

pub loop-slot-preserved : goal.loop-slot-preserved
loop-slot-preserved c =
    let all : List Slot = c.deref-slot-items.result.now in
    let front : List Slot = take c.loop-slot.slot-index c.deref-slot-items.result.now in
    let next : take (suc c.loop-slot.slot-index) c.deref-slot-items.result.now ≡ front ++ c.slot-item.result ∷ [] =
    take-suc c.deref-slot-items.result.now c.loop-slot.slot-index c.slot-item.result c.loop-slot-test.true ∙ ap (λ slot. front ++ slot ∷ []) (sym c.slot-item.is) in
    let here : take (c.loop-slot.slot-index + 1) c.deref-slot-items.result.now ≡ front ++ c.slot-item.result ∷ [] = ap (λ k. take k c.deref-slot-items.result.now) (add-one c.loop-slot.slot-index) ∙ next in
    subst (λ sight. IsSightOf sight c.args.said (take (c.loop-slot.slot-index + 1) c.deref-slot-items.result.now)) (sym c.show.ensures)
    (subst (IsSightOf (seen_with c.slot-item.result.backlog c.args.said c.loop-slot.sight) c.args.said) (sym here)
    (sight_more c.loop-slot.sight c.args.said front c.slot-item.result c.loop-slot.invariant))
