use Rattle.std.proofs.Common.{◌≡◌, ◌<◌, ◌^◌, ◌++◌, ◌∷◌, [], eqb, sym, ap, ap₂, ◌∙◌, subst, arith}
use Rattle.std.specs.Map.{values_of}
use Rattle.indexmap.specs.IndexMap.{insert_entry}
use Rattle.indexmap.proofs.CallerLemmas.{insert_entry-new}
use Rattle.user_table.specs.RosterView.{AreSeated}
use Rattle.user_table.specs.Shares.{totals_with}
use Rattle.user_table.specs.Tables.{totals_of, user_by_sid}
use Rattle.user_table.proofs.SeatLemmas.{lookup-seated, seated-pushed, users-pushed}
use Rattle.user_table.proofs.ShareLemmas.{few-users, ss-fits-more, sf-fits-more, totals-pushed}
use Rattle.user_table.proofs.roster.Roster.push.Goals as goal

pub raise-requires-clause-users : goal.raise-requires-clause-users
raise-requires-clause-users c = few-users c.self.inside.users.entries c.self.inside.totals c.len-count.result c.self.invariant.1 c.len-count.ensures.len c.len-count.ensures.small

pub raise-requires-clause-ss : goal.raise-requires-clause-ss
raise-requires-clause-ss c =
    let counted : c.self.inside.totals.users < 2 ^ 64 = omega (arith, raise-requires-clause-users c) in
    ss-fits-more (values_of c.self.inside.users.entries) c.self.inside.totals c.files_shared-shared.result c.args.user c.self.invariant.1 c.files_shared-shared.ensures counted

pub raise-requires-clause-sf : goal.raise-requires-clause-sf
raise-requires-clause-sf c =
    let counted : c.self.inside.totals.users < 2 ^ 64 = omega (arith, raise-requires-clause-users c) in
    sf-fits-more (values_of c.self.inside.users.entries) c.self.inside.totals c.files_shared-shared.result c.args.user c.self.invariant.1 c.files_shared-shared.ensures counted

pub invariant_of-self : goal.invariant_of-self
invariant_of-self c =
    let before = c.self.inside.users.entries in
    let user = c.args.user in
    let absent = lookup-seated user.sid before c.self.invariant.0 ∙ ap (user_by_sid user.sid) c.self.view_is ∙ c.requires.absent in
    let pushed : c.insert.new.self.entries ≡ before ++ (user.sid, user) ∷ [] =
    c.in-Ok.ensures.entries ∙ ap (λ sid. insert_entry eqb before sid user) c.sid.ensures ∙ insert_entry-new eqb c.self.inside.users user.sid user absent in (
      subst AreSeated (sym pushed) (seated-pushed before user c.self.invariant.0),
      c.raise.ensures ∙ ap₂ totals_with c.files_shared-shared.ensures c.self.invariant.1 ∙ sym (totals-pushed (values_of before) user) ∙ ap totals_of (sym (users-pushed before user))
          ∙ ap (λ entries. totals_of (values_of entries)) (sym pushed),
    )

pub returns-in-Ok-clause-entered : goal.returns-in-Ok-clause-entered
returns-in-Ok-clause-entered c =
    let before = c.self.inside.users.entries in
    let user = c.args.user in
    let absent = lookup-seated user.sid before c.self.invariant.0 ∙ ap (user_by_sid user.sid) c.self.view_is ∙ c.requires.absent in
    ap values_of (c.in-Ok.ensures.entries ∙ ap (λ sid. insert_entry eqb before sid user) c.sid.ensures ∙ insert_entry-new eqb c.self.inside.users user.sid user absent)
    ∙ users-pushed before user ∙ ap (λ users. users ++ user ∷ []) c.self.view_is
