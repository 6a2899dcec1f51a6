use Rattle.std.proofs.Common.{Some, sym, ap, ◌∙◌, slice_set}
use Rattle.std.specs.Option.{option_map}
use Rattle.std.specs.String.{string_bytes}
use Rattle.user_table.specs.Places.{place_from}
use Rattle.user_table.specs.Tables.{has_sid, user_by_sid, updated_user}
use Rattle.user_table.proofs.TableLemmas.{place-below, place-user, place-changed, absent-user, none-takes, takes-fits, on-ok}
use Rattle.plain_users.proofs.plain.change.Goals as goal

pub unreachable-requires : goal.unreachable-requires
unreachable-requires c =
    none-takes c.args.sid c.args.update.now c.args.users.now.items
    (ap (user_by_sid c.args.sid) (sym c.deref.ensures.value) ∙ absent-user c.args.sid c.deref.result.now (sym c.in_default.ensures)) c.requires.takes

pub index_mut-requires : goal.index_mut-requires
index_mut-requires c = rw (← c.deref.ensures.len) (place-below c.args.sid c.deref.result.now c.in-Some.place (sym c.in-Some.ensures))

pub change-requires : goal.change-requires
change-requires c =
    let found = ap (place_from (has_sid c.args.sid) 0) (sym c.deref.ensures.value) ∙ sym c.in-Some.ensures in
    record {
      room = takes-fits c.args.sid c.args.update.now c.args.users.now.items c.index_mut.result.now
          (place-user c.args.sid c.args.users.now.items c.in-Some.place c.index_mut.result.now found ∙ ap Some (sym c.index_mut.ensures.value)) c.requires.takes;
    }

pub returns-clause-changed : goal.returns-clause-changed
returns-clause-changed c =
    let found = ap (place_from (has_sid c.args.sid) 0) (sym c.deref.ensures.value) ∙ sym c.in-Some.ensures in
    on-ok c.change.result
    (λ e. ap (slice_set c.args.users.now.items c.in-Some.place) (e ∙ ap (updated_user c.args.update.now (option_map string_bytes c.args.key)) c.index_mut.ensures.value)
    ∙ place-changed c.args.sid c.args.update.now (option_map string_bytes c.args.key) c.args.users.now.items c.in-Some.place c.index_mut.result.now c.requires.distinct found)
    c.change.ensures.changed
