use Rattle.std.proofs.Common.{◌≡◌, ◌∙◌, sym, ap, ap₂, List}
use Rattle.std.specs.String.{string_bytes}
use Rattle.inf_fields.specs.Cleaning.{clean}
use Rattle.inf_fields.specs.Field.{Field}
use Rattle.inf_fields.specs.Merging.{merged_with}
use Rattle.user_table.specs.Listed.{Listed}
use Rattle.hub_rules.specs.Effects.{entrant}
use Rattle.hub_rules.specs.Identities.{cid_in, key_in, listed_user}
use Rattle.hub_rules.specs.Views.{SenderView, user_after}
use Rattle.hub_decisions.proofs.KnownUsers.{after-key}
use Rattle.hub_decisions.proofs.Logins.{after-cid, after-fields, known-key}
use Rattle.hub_decisions.proofs.login.user_of_login.Goals as goal

pub returns-in_ok-entrant-in-Ok : goal.returns-in_ok-entrant-in-Ok
returns-in_ok-entrant-in-Ok c =
    λ none.
    let own : SenderView = c.args.own.now in
    let u : List Field = c.args.inf.now in
    let user : Listed = user_after own u in
    let fields : c.in_ok-fields-in-Ok.fields ≡ merged_with own.fields (clean u own.sender.peer) =
    c.in_ok-fields-in-Ok.ensures ∙ ap₂ (λ fs u. merged_with fs (clean u own.sender.peer)) (sym none) c.update.ensures in
    let keyed : string_bytes c.in_ok-key-in-Ok.key ≡ key_in c.in_ok-fields-in-Ok.fields =
    c.in_ok-key-in-Ok.ensures.ok ∙ c.key.ensures ∙ sym (known-key own u none) ∙ sym (after-key own u) ∙ ap key_in (sym fields) in
    let may = rw c.in-Ok.is at (c.in_ok-cid.ensures user (after-cid own u none) (known-key own u none)) in (
      may.1,
      c.in_ok-entrant-in-Ok.ensures (sym may.0 ∙ after-fields own u ∙ ap cid_in (sym fields)) keyed
          ∙ ap (λ s. entrant (listed_user s c.in_ok-fields-in-Ok.fields)) (ap (λ (o : SenderView). o.sender.sid) c.own.view_is) ∙ ap (λ f. entrant (listed_user own.sender.sid f)) fields,
    )

pub returns-in-Err : goal.returns-in-Err
returns-in-Err c =
    λ none.
    let own : SenderView = c.args.own.now in
    let u : List Field = c.args.inf.now in
    rw c.in-Err.is at (c.in_ok-cid.ensures (user_after own u) (after-cid own u none) (known-key own u none))
