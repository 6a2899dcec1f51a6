use Rattle.std.proofs.Common.{Some, sym, ap, ◌∙◌}
use Rattle.user_table.specs.Places.{place_from}
use Rattle.user_table.specs.Tables.{has_sid, user_by_sid, without_sid}
use Rattle.user_table.proofs.TableLemmas.{place-below, place-user, place-removed, absent-user, absent-left, distinct-without}
use Rattle.plain_users.proofs.plain.PlainUsersUsers.remove.Goals as goal

pub remove-requires : goal.remove-requires
remove-requires c = rw (← c.deref.ensures.len) (place-below c.args.sid c.deref.result.now c.in_ok-place.place (sym c.in_ok-place.ensures))

pub returns-in_err-place-clause-removed : goal.returns-in_err-place-clause-removed
returns-in_err-place-clause-removed c =
    c.from_residual.ensures
    ∙ sym (absent-user c.args.sid c.deref.result.now (sym c.in_err-place.ensures))
    ∙ ap (user_by_sid c.args.sid) (c.deref.ensures.value ∙ c.self.view_is)

pub returns-in_err-place-clause-left : goal.returns-in_err-place-clause-left
returns-in_err-place-clause-left c =
    rw (← c.self.view_is, ← c.deref.ensures.value) (absent-left c.args.sid c.deref.result.now (sym c.in_err-place.ensures))

pub invariant_of-self : goal.invariant_of-self
invariant_of-self c =
    let left = place-removed c.args.sid c.self.inside.users.items c.in_ok-place.place c.self.invariant
    (ap (place_from (has_sid c.args.sid) 0) (sym c.deref.ensures.value) ∙ sym c.in_ok-place.ensures) in
    rw (c.remove.ensures.items, left) (distinct-without c.args.sid c.self.inside.users.items c.self.invariant)

pub returns-clause-removed : goal.returns-clause-removed
returns-clause-removed c =
    ap Some c.remove.ensures.value
    ∙ sym (place-user c.args.sid c.self.inside.users.items c.in_ok-place.place c.remove.result
    (ap (place_from (has_sid c.args.sid) 0) (sym c.deref.ensures.value) ∙ sym c.in_ok-place.ensures))
    ∙ ap (user_by_sid c.args.sid) c.self.view_is

pub returns-clause-left : goal.returns-clause-left
returns-clause-left c =
    c.remove.ensures.items
    ∙ place-removed c.args.sid c.self.inside.users.items c.in_ok-place.place c.self.invariant
    (ap (place_from (has_sid c.args.sid) 0) (sym c.deref.ensures.value) ∙ sym c.in_ok-place.ensures)
    ∙ ap (without_sid c.args.sid) c.self.view_is
