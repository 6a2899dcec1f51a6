use Rattle.std.proofs.Common.{◌∙◌, sym, subst, ℕ, ◌<◌, length, get_or}
use Rattle.std.specs.Prelude.{◌≢◌, IfNone}
use Rattle.hub_core.specs.declared.seat.Seat.{Seat}
use Rattle.hub_core.proofs.Hearers.{found-has, nobody-has, none-has}
use Rattle.hub_core.proofs.share.place_by_sid.Goals as goal

pub returns-in_err-get-clause-none : goal.returns-in_err-get-clause-none
returns-in_err-get-clause-none c =
    subst (λ r. IfNone r ((i : ℕ) (d : Seat) → i < length c.args.seats.now → (get_or c.args.seats.now i d).sender.sid ≢ c.args.sid)) (sym c.from_residual.ensures)
    (nobody-has c.args.index.now c.args.seats.now c.requires.indexed c.args.sid (sym c.get.ensures ∙ c.in_err-get.was))

pub returns-clause-some : goal.returns-clause-some
returns-clause-some c =
    found-has c.args.index.now c.args.seats.now c.requires.indexed c.args.sid c.in_ok-get.field-0 (sym c.get.ensures ∙ c.in_ok-get.was) c.requires.rising c.find.result c.find.ensures

pub returns-clause-none : goal.returns-clause-none
returns-clause-none c =
    none-has c.args.index.now c.args.seats.now c.requires.indexed c.args.sid c.in_ok-get.field-0 (sym c.get.ensures ∙ c.in_ok-get.was) c.requires.rising c.find.result c.find.ensures
