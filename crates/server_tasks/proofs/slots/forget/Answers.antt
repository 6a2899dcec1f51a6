use Rattle.std.proofs.Common.{◌≡◌, ◌≢◌, ◌∙◌, sym, ap, subst, Some, IfSome}
use Rattle.std.proofs.lemmas.Option.{none-some}
use Rattle.server_tasks.specs.Named.{slot_at}
use Rattle.server_tasks.proofs.Forgotten.{forgotten}
use Rattle.server_tasks.proofs.slots.forget.Goals as goal

pub returns-then-found-place-clause-others : goal.returns-then-found-place-clause-others
returns-then-found-place-clause-others c =
    let was : slot_at c.args.places.now.entries c.in-Some.sid ≡ Some c.args.place = sym c.get.ensures.value ∙ sym c.copied.ensures ∙ c.in-Some-copied.is ∙ ap Some c.if-found-place.true in
    forgotten c.in-Some.sid c.args.place c.args.places.now c.remove.new.self c.remove.ensures.updates was

pub returns-then-found-place-clause-forgotten : goal.returns-then-found-place-clause-forgotten
returns-then-found-place-clause-forgotten c =
    let gone : slot_at c.remove.new.self.entries c.in-Some.sid ≢ Some c.args.place = λ found. none-some c.args.place (sym c.remove.ensures.updates.1 ∙ found) in
    subst (λ sid. IfSome sid (λ one. slot_at c.remove.new.self.entries one ≢ Some c.args.place)) (sym c.in-Some.is) gone
