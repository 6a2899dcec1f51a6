use Rattle.std.proofs.Common.{◌≡◌, ◌∙◌, refl, ap, ap₂, not}
use Rattle.operator_acts.specs.Bans.{left_of_bans}
use Rattle.user_table.specs.Listed.{Listed}
use Rattle.user_table.specs.Tables.{has_cid, has_key}
use Rattle.hub_rules.specs.Grounds.{ban_ground, entry_grounds}
use Rattle.hub_rules.specs.Views.{HubView, is_here}
use Rattle.hub_decisions.proofs.GroundLists.{before, by-test}
use Rattle.hub_decisions.proofs.password.password_grounds.Goals as goal

pub returns : goal.returns
unfolding entry_grounds
returns c =
    let hub : HubView = c.args.hub.now in
    let user : Listed = c.args.user.now in
    let left : c.left-left.result ≡ left_of_bans hub.bans user.cid c.args.now =
    c.left-left.ensures ∙ ap₂ (λ (h : HubView) i. left_of_bans h.bans i c.args.now) c.hub.view_is c.cid.ensures in
    before (by-test _ (ap not c.is_expected.ensures))
    (before (c.ban_ground.ensures ∙ ap ban_ground left)
    (before (by-test _ (c.has_key.ensures ∙ ap (λ k. is_here (has_key k) hub) c.key.ensures))
    (before (by-test _ (c.has_cid.ensures ∙ ap (λ i. is_here (has_cid i) hub) c.cid-2.ensures))
    refl)))
