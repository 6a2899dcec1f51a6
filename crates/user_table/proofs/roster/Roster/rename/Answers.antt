use Rattle.std.proofs.Common.{List, eqb, map, refl, sym, ap, ◌∙◌, subst, true≢false}
use Rattle.std.specs.Prelude.{IsSome}
use Rattle.std.specs.List.{IsDistinct}
use Rattle.std.specs.Map.{set_value, values_of}
use Rattle.std.specs.Option.{option_copied_mut}
use Rattle.std.specs.String.{string_bytes}
use Rattle.user_table.specs.Listed.{Listed}
use Rattle.user_table.specs.Renaming.{renamed_if, with_key}
use Rattle.user_table.specs.RosterView.{AreSeated}
use Rattle.user_table.specs.Tables.{totals_of, user_by_sid}
use Rattle.user_table.proofs.NickLemmas.{own_sid, own_key}
use Rattle.user_table.proofs.SeatLemmas.{lookup-seated, seated-set, users-set}
use Rattle.user_table.proofs.ShareLemmas.{totals-kept}
use Rattle.user_table.proofs.SidLemmas.{same-some}
use Rattle.user_table.proofs.roster.Roster.rename.Goals as goal

pub unreachable-requires : goal.unreachable-requires
unreachable-requires c =
    let none = sym c.get_mut.ensures.value ∙ ap option_copied_mut c.in_default.is in
    let absent = sym (lookup-seated c.args.sid c.self.inside.users.entries c.self.invariant.0 ∙ ap (user_by_sid c.args.sid) c.self.view_is) ∙ none in
    absurd (true≢false (sym (subst IsSome absent c.requires.present)))

pub invariant_of-self : goal.invariant_of-self
invariant_of-self c =
    let before = c.self.inside.users.entries in
    let written = (c.get_mut.follows.holds c.rename.new.self).0 in
    let found = sym c.in-Some.ensures.value in (
      subst AreSeated (sym written) (seated-set c.args.sid before c.in-Some.user.now c.rename.new.self c.self.invariant.0 found (ap own_sid c.rename.ensures.renamed)),
      c.self.invariant.1
          ∙ sym (totals-kept (eqb c.args.sid) before c.in-Some.user.now c.rename.new.self found (ap (λ (user : Listed). user.fields) c.rename.ensures.renamed))
          ∙ ap (λ entries. totals_of (values_of entries)) (sym written),
    )

pub returns-clause-renamed : goal.returns-clause-renamed
returns-clause-renamed c =
    let before = c.self.inside.users.entries in
    let key = string_bytes c.args.key in
    let distinct = subst (λ (users : List Listed). IsDistinct eqb (map own_sid users)) (sym c.self.view_is) c.requires.distinct.sids in
    ap values_of ((c.get_mut.follows.holds c.rename.new.self).0 ∙ ap (set_value (eqb c.args.sid) before) c.rename.ensures.renamed)
    ∙ users-set (λ b user. renamed_if b key user) (λ _. refl) c.args.sid before c.in-Some.user.now c.self.invariant.0 distinct (sym c.in-Some.ensures.value)
    ∙ ap (with_key c.args.sid key) c.self.view_is

pub returns-clause-before : goal.returns-clause-before
returns-clause-before c = λ user found.
    c.rename.ensures.before
    ∙ ap own_key
    (same-some c.in-Some.user.now user
    (c.in-Some.ensures.value ∙ lookup-seated c.args.sid c.self.inside.users.entries c.self.invariant.0 ∙ ap (user_by_sid c.args.sid) c.self.view_is ∙ found))
