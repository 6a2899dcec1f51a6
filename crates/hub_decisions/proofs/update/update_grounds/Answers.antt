use Rattle.std.proofs.Common.{◌≡◌, ◌∙◌, refl, ap, ap₂, not, List}
use Rattle.std.specs.Option.{unwrap_or}
use Rattle.inf_fields.specs.Field.{Field, value_of}
use Rattle.inf_fields.specs.FieldNames.{id_name}
use Rattle.inf_fields.specs.Merging.{fits}
use Rattle.login_state.specs.declared.deny.Deny.TheVariants as denials
use Rattle.login_state.specs.declared.deny.Severity.TheVariants.{Recoverable}
use Rattle.hub_rules.specs.Grounds.{differs, is_wrong_address, touches_account, update_grounds, value_ground}
use Rattle.hub_rules.specs.Identities.{value_or_empty}
use Rattle.hub_rules.specs.Views.{SenderView, HubView, another_has_key}
use Rattle.hub_decisions.proofs.GroundLists.{before, by-test}
use Rattle.hub_decisions.proofs.KnownUsers.{user-fields, user-key}
use Rattle.hub_decisions.proofs.update.update_grounds.Goals as goal

pub returns : goal.returns
unfolding update_grounds
returns c =
    λ known.
    let hub : HubView = c.args.hub.now in
    let own : SenderView = c.args.own.now in
    let u : List Field = c.args.inf.now in
    let keyed = c.key_after-key.ensures own known in
    let fields : c.args.user.now.fields ≡ own.fields = user-fields own c.args.user.now known in
    let peer = ap (λ (o : SenderView). o.sender.peer) c.own.view_is in
    before (by-test _ (c.changes_id.ensures ∙ ap₂ (λ u fs. differs (unwrap_or (value_of id_name u) (value_or_empty id_name fs)) (value_or_empty id_name fs)) c.update-update.ensures (c.fields.ensures ∙ fields)))
    (before (c.value_ground.ensures ∙ ap (value_ground Recoverable) c.update-update.ensures)
    (before (by-test _ c.is_bad_nick.ensures)
    (before (by-test _ (c.touches_account.ensures ∙ ap₂ (touches_account hub) (c.key.ensures ∙ user-key own c.args.user.now known) keyed))
    (before (ap₂ (λ w p. (w, denials.Address Recoverable p)) (c.in_ok-is_wrong_address.ensures ∙ ap₂ is_wrong_address peer (c.value_in_update-address.ensures ∙ ap₂ value_or_empty c.address.ensures c.update-update.ensures)) peer)
    (before (by-test _ (ap not (c.fits.ensures ∙ ap₂ fits (c.fields-2.ensures ∙ fields) c.requires)))
    (before (by-test _ (c.another_has_key.ensures ∙ ap₂ (another_has_key hub) (ap (λ (o : SenderView). o.sender.sid) c.own.view_is) keyed))
    refl))))))
