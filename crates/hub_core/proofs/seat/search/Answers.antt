use Rattle.std.proofs.Common.{rules, sym, Ok, Err}
use Rattle.std.proofs.lemmas.List.Sorted.{answers_always}
use Rattle.hub_core.specs.declared.seat.Seat.{Seat}
use Rattle.hub_core.proofs.Numbers.{searched}
use Rattle.hub_core.proofs.seat.search.Goals as goal

pub returns-in-Ok : goal.returns-in-Ok
returns-in-Ok c =
    sym (searched c.args.number c.args.seats.now c.requires (Ok c.in-Ok.place) c.in-Ok.ensures.bound
    (c.in-Ok.ensures.position (λ (seat : Seat). seat.number) (answers_always _ _ _ (λ f a r g called. search rules))))

pub returns-in-Err : goal.returns-in-Err
returns-in-Err c =
    sym (searched c.args.number c.args.seats.now c.requires (Err c.in-Err.field-0) c.in-Err.ensures.bound
    (c.in-Err.ensures.position (λ (seat : Seat). seat.number) (answers_always _ _ _ (λ f a r g called. search rules))))
