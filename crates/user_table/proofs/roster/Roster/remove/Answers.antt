use Rattle.std.proofs.Common.{List, eqb, map, sym, ap, ap₂, ◌∙◌, subst}
use Rattle.std.specs.List.{IsDistinct}
use Rattle.std.specs.Map.{values_of}
use Rattle.user_table.specs.Listed.{Listed}
use Rattle.user_table.specs.RosterView.{AreSeated}
use Rattle.user_table.specs.Shares.{totals_without}
use Rattle.user_table.specs.Tables.{totals_of, user_by_sid, without_sid}
use Rattle.user_table.proofs.NickLemmas.{own_sid}
use Rattle.user_table.proofs.SeatLemmas.{lookup-seated, seated-removed, users-removed}
use Rattle.user_table.proofs.ShareLemmas.{ss-counted, sf-counted, totals-removed}
use Rattle.user_table.proofs.roster.Roster.remove.Goals as goal

pub returns-in_err-user-clause-removed : goal.returns-in_err-user-clause-removed
returns-in_err-user-clause-removed c =
    c.from_residual.ensures ∙ c.in_err-user.ensures.value ∙ lookup-seated c.args.sid c.self.inside.users.entries c.self.invariant.0 ∙ ap (user_by_sid c.args.sid) c.self.view_is

pub returns-in_err-user-clause-left : goal.returns-in_err-user-clause-left
returns-in_err-user-clause-left c =
    ap values_of c.shift_remove.ensures.entries
    ∙ users-removed c.args.sid c.self.inside.users.entries c.self.invariant.0 (subst (λ (users : List Listed). IsDistinct eqb (map own_sid users)) (sym c.self.view_is) c.requires.distinct.sids)
    ∙ ap (without_sid c.args.sid) c.self.view_is

pub lower-requires-clause-ss : goal.lower-requires-clause-ss
lower-requires-clause-ss c =
    ss-counted (eqb c.args.sid) c.self.inside.users.entries c.self.inside.totals c.files_shared.result c.in_ok-user.user c.self.invariant.1 c.files_shared.ensures (sym c.in_ok-user.ensures.value)

pub lower-requires-clause-sf : goal.lower-requires-clause-sf
lower-requires-clause-sf c =
    sf-counted (eqb c.args.sid) c.self.inside.users.entries c.self.inside.totals c.files_shared.result c.in_ok-user.user c.self.invariant.1 c.files_shared.ensures (sym c.in_ok-user.ensures.value)

pub invariant_of-self-2 : goal.invariant_of-self-2
invariant_of-self-2 c =
    let before = c.self.inside.users.entries in (
      subst AreSeated (sym c.shift_remove.ensures.entries) (seated-removed c.args.sid before c.self.invariant.0),
      c.lower.ensures ∙ ap₂ totals_without c.files_shared.ensures c.self.invariant.1 ∙ sym (totals-removed (eqb c.args.sid) before c.in_ok-user.user (sym c.in_ok-user.ensures.value))
          ∙ ap (λ entries. totals_of (values_of entries)) (sym c.shift_remove.ensures.entries),
    )

pub returns-clause-removed : goal.returns-clause-removed
returns-clause-removed c =
    c.in_ok-user.ensures.value ∙ lookup-seated c.args.sid c.self.inside.users.entries c.self.invariant.0 ∙ ap (user_by_sid c.args.sid) c.self.view_is

pub returns-clause-left : goal.returns-clause-left
returns-clause-left c =
    ap values_of c.shift_remove.ensures.entries
    ∙ users-removed c.args.sid c.self.inside.users.entries c.self.invariant.0 (subst (λ (users : List Listed). IsDistinct eqb (map own_sid users)) (sym c.self.view_is) c.requires.distinct.sids)
    ∙ ap (without_sid c.args.sid) c.self.view_is
