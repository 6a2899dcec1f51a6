use Rattle.std.proofs.Common.{rules, ◌<◌, ◌^◌, None, List, eqb, map, refl, sym, ap, ap₂, ◌∙◌, subst}
use Rattle.std.specs.List.{IsDistinct}
use Rattle.std.specs.Map.{set_value, values_of}
use Rattle.std.specs.Option.{option_copied_mut}
use Rattle.std.proofs.lemmas.Map.Steps.{set_value_same}
use Rattle.user_table.specs.Listed.{Listed}
use Rattle.user_table.specs.RosterView.{AreSeated}
use Rattle.user_table.specs.Shares.{totals_without, totals_with}
use Rattle.user_table.specs.Tables.{totals_of, updated_if, user_by_sid, with_update}
use Rattle.user_table.proofs.IndexedLemmas.{any-err}
use Rattle.user_table.proofs.NickLemmas.{own_sid}
use Rattle.user_table.proofs.SeatLemmas.{lookup-seated, seated-set, users-set}
use Rattle.user_table.proofs.ShareLemmas.{ss-fits-again, sf-fits-again, totals-set}
use Rattle.user_table.proofs.TableLemmas.{none-takes, takes-fits}
use Rattle.user_table.proofs.roster.Roster.merge.Goals as goal

pub unreachable-requires : goal.unreachable-requires
unreachable-requires c =
    let none = sym c.get_mut.ensures.value ∙ ap option_copied_mut c.in_default.is in
    let absent = sym (lookup-seated c.args.sid c.self.inside.users.entries c.self.invariant.0 ∙ ap (user_by_sid c.args.sid) c.self.view_is) ∙ none in
    none-takes c.args.sid c.args.update.now c.args.self.now absent c.requires.takes

pub change-requires : goal.change-requires
change-requires c =
    let found = sym (c.in-Some.ensures.value ∙ lookup-seated c.args.sid c.self.inside.users.entries c.self.invariant.0 ∙ ap (user_by_sid c.args.sid) c.self.view_is) in
    record { room = takes-fits c.args.sid c.args.update.now c.args.self.now c.in-Some.user.now found c.requires.takes }

pub invariant_of-self : goal.invariant_of-self
invariant_of-self c =
    let before = c.self.inside.users.entries in
    let same = (c.get_mut.follows.holds c.change.new.self).0 ∙ ap (set_value (eqb c.args.sid) before) c.in_err-change.ensures.unchanged
    ∙ set_value_same (eqb c.args.sid) before c.in-Some.user.now (sym c.in-Some.ensures.value) in
    (subst AreSeated (sym same) c.self.invariant.0, c.self.invariant.1 ∙ ap (λ entries. totals_of (values_of entries)) (sym same))

pub returns-in_err-change-clause-unchanged : goal.returns-in_err-change-clause-unchanged
returns-in_err-change-clause-unchanged c =
    let before = c.self.inside.users.entries in
    let same = (c.get_mut.follows.holds c.change.new.self).0 ∙ ap (set_value (eqb c.args.sid) before) c.in_err-change.ensures.unchanged
    ∙ set_value_same (eqb c.args.sid) before c.in-Some.user.now (sym c.in-Some.ensures.value) in
    any-err c.from_residual.result (ap values_of same ∙ c.self.view_is)

pub raise-requires-clause-ss : goal.raise-requires-clause-ss
raise-requires-clause-ss c =
    let counted : c.self.inside.totals.users < 2 ^ 64 = search rules in
    ss-fits-again (values_of c.self.inside.users.entries) c.self.inside.totals c.lower.new.self c.files_shared-before.result c.files_shared-after.result c.change.new.self c.self.invariant.1 c.lower.ensures
    c.files_shared-after.ensures counted

pub raise-requires-clause-sf : goal.raise-requires-clause-sf
raise-requires-clause-sf c =
    let counted : c.self.inside.totals.users < 2 ^ 64 = search rules in
    sf-fits-again (values_of c.self.inside.users.entries) c.self.inside.totals c.lower.new.self c.files_shared-before.result c.files_shared-after.result c.change.new.self c.self.invariant.1 c.lower.ensures
    c.files_shared-after.ensures counted

pub invariant_of-self-2 : goal.invariant_of-self-2
invariant_of-self-2 c =
    let before = c.self.inside.users.entries in
    let written = (c.get_mut.follows.holds c.change.new.self).0 in
    let found = sym c.in-Some.ensures.value in (
      subst AreSeated (sym written) (seated-set c.args.sid before c.in-Some.user.now c.change.new.self c.self.invariant.0 found (ap own_sid c.in_ok-change.ensures.changed)),
      c.raise.ensures ∙ ap₂ totals_with c.files_shared-after.ensures (c.lower.ensures ∙ ap₂ totals_without c.files_shared-before.ensures c.self.invariant.1)
          ∙ sym (totals-set (eqb c.args.sid) before c.in-Some.user.now c.change.new.self found) ∙ ap (λ entries. totals_of (values_of entries)) (sym written),
    )

pub returns-clause-merged : goal.returns-clause-merged
returns-clause-merged c =
    let before = c.self.inside.users.entries in
    let update = c.args.update.now in
    let distinct = subst (λ (users : List Listed). IsDistinct eqb (map own_sid users)) (sym c.self.view_is) c.requires.distinct.sids in
    ap values_of ((c.get_mut.follows.holds c.change.new.self).0 ∙ ap (set_value (eqb c.args.sid) before) c.in_ok-change.ensures.changed)
    ∙ users-set (λ b user. updated_if b update None user) (λ _. refl) c.args.sid before c.in-Some.user.now c.self.invariant.0 distinct (sym c.in-Some.ensures.value)
    ∙ ap (with_update c.args.sid update None) c.self.view_is
