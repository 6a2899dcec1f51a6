use Rattle.std.proofs.Common.{◌∙◌, ap, Some, None}
use Rattle.hub_rules.specs.Views.{HubView, another_has_key}
use Rattle.hub_decisions.proofs.Rivals.{another-is}
use Rattle.hub_decisions.proofs.update.another_has_key.Goals as goal

pub returns-in-Some : goal.returns-in-Some
returns-in-Some c =
    c.is_another.ensures
    ∙ another-is c.args.sid c.args.key.now c.hub.inside.users.now (Some c.in-Some.user.now) c.in-Some.ensures.distinct c.in-Some.ensures.found
    ∙ ap (λ (hub : HubView). another_has_key hub c.args.sid c.args.key.now) c.hub.view_is

pub returns-in-None : goal.returns-in-None
returns-in-None c =
    another-is c.args.sid c.args.key.now c.hub.inside.users.now None c.in-None.ensures.distinct c.in-None.ensures.found
    ∙ ap (λ (hub : HubView). another_has_key hub c.args.sid c.args.key.now) c.hub.view_is
