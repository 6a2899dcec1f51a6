use Rattle.std.proofs.Common.{◌≡◌, ◌∙◌, sym, ap, ap₂, List, None, Some}
use Rattle.inf_fields.specs.Cleaning.{clean}
use Rattle.inf_fields.specs.Field.{Field, value_of}
use Rattle.inf_fields.specs.FieldNames.{nick_name}
use Rattle.hub_rules.specs.Effects.{unless_denied, update_effect}
use Rattle.hub_rules.specs.Grounds.{first_ground, update_grounds}
use Rattle.hub_rules.proofs.Merges.{nick-clean}
use Rattle.hub_rules.specs.Views.{SenderView, user_after}
use Rattle.hub_decisions.proofs.KnownUsers.{when-ok}
use Rattle.hub_decisions.proofs.update.decide_change.Goals as goal

pub returns-in-Some : goal.returns-in-Some
returns-in-Some c =
    when-ok c.denial.result c.denial.ensures
    (λ effect is known.
    let own : SenderView = c.args.own.now in
    let u : List Field = c.args.inf.now in
    let cleaned : c.in_ok-cleaned.cleaned ≡ clean u own.sender.peer = c.in_ok-cleaned.ensures ∙ ap₂ (λ u (o : SenderView). clean u o.sender.peer) c.update.ensures c.own.view_is in
    let denied : first_ground (update_grounds c.args.hub.now own u (user_after own u)) ≡ Some c.in-Some.deny =
    ap first_ground (sym (c.in_ok-grounds.ensures known)) ∙ sym c.first_ground.ensures ∙ c.in-Some.is in
    is ∙ ap (λ d. unless_denied own d (update_effect own (clean u own.sender.peer))) (sym denied))

pub returns : goal.returns
returns c =
    when-ok c.effect_of_update.result c.effect_of_update.ensures
    (λ effect is known.
    let own : SenderView = c.args.own.now in
    let u : List Field = c.args.inf.now in
    let cleaned : c.in_ok-cleaned.cleaned ≡ clean u own.sender.peer = c.in_ok-cleaned.ensures ∙ ap₂ (λ u (o : SenderView). clean u o.sender.peer) c.update.ensures c.own.view_is in
    let none : first_ground (update_grounds c.args.hub.now own u (user_after own u)) ≡ None =
    ap first_ground (sym (c.in_ok-grounds.ensures known)) ∙ sym c.first_ground.ensures ∙ c.in-None.is in
    is known ∙ ap (update_effect own) cleaned ∙ ap (λ d. unless_denied own d (update_effect own (clean u own.sender.peer))) (sym none))

pub effect_of_update-requires : goal.effect_of_update-requires
effect_of_update-requires c =
    ap (value_of nick_name) c.in_ok-cleaned.ensures ∙ nick-clean c.update.result.now c.own.inside.sender.now.peer ∙ ap (value_of nick_name) c.update.ensures
