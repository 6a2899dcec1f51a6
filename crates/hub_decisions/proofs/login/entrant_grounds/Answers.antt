use Rattle.std.proofs.Common.{◌≡◌, ◌∙◌, refl, sym, ap, ap₂, ◌&&◌, not, List}
use Rattle.inf_fields.specs.Field.{Field}
use Rattle.login_state.specs.declared.deny.Deny.TheVariants as denials
use Rattle.login_state.specs.declared.deny.Severity.TheVariants.{Fatal}
use Rattle.operator_acts.specs.Bans.{left_of_bans}
use Rattle.user_table.specs.Tables.{has_cid, has_key}
use Rattle.hub_rules.specs.Grounds.{ban_ground, is_digest, is_wrong_address, value_ground}
use Rattle.hub_rules.specs.Identities.{value_or_empty}
use Rattle.hub_rules.specs.Views.{SenderView, HubView, is_account, is_here}
use Rattle.hub_decisions.proofs.GroundLists.{before, by-test}
use Rattle.hub_decisions.proofs.login.entrant_grounds.Goals as goal

pub returns : goal.returns
returns c =
    λ user same_cid same_key.
    let hub : HubView = c.args.hub.now in
    let u : List Field = c.args.inf.now in
    let keyed = c.key-key.ensures ∙ sym same_key in
    let left : c.left-left.result ≡ left_of_bans hub.bans user.cid c.args.now =
    c.left-left.ensures ∙ ap₂ (λ (h : HubView) i. left_of_bans h.bans i c.args.now) c.hub.view_is (sym same_cid) in
    let peer = ap (λ (o : SenderView). o.sender.peer) c.own.view_is in
    before (by-test _ (ap not c.is_some-has_owner.ensures))
    (before (c.value_ground.ensures ∙ ap (value_ground Fatal) c.update-update.ensures)
    (before (by-test _ (ap not (c.is_digest.ensures ∙ ap (λ e. is_digest e c.args.owner) (c.bytes.ensures ∙ sym same_cid))))
    (before (by-test _ (ap not c.is_nick.ensures))
    (before (c.ban_ground.ensures ∙ ap ban_ground left)
    (before (ap₂ (λ w p. (w, denials.Address Fatal p)) (c.in_ok-is_wrong_address.ensures ∙ ap₂ is_wrong_address peer (c.value_in_update-address.ensures ∙ ap₂ value_or_empty c.address.ensures c.update-update.ensures)) peer)
    (before (by-test _ (c.is_barred.ensures ∙ ap (λ k. hub.setup.plain.registered_only && not (is_account hub k)) keyed))
    (before (by-test _ (c.has_key.ensures ∙ ap (λ k. is_here (has_key k) hub) keyed))
    (before (by-test _ (c.has_cid.ensures ∙ ap (λ i. is_here (has_cid i) hub) (sym same_cid)))
    refl))))))))
