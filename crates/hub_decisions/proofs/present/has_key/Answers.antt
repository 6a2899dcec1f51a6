use Rattle.std.proofs.Common.{◌∙◌, ap}
use Rattle.user_table.specs.Tables.{has_key}
use Rattle.hub_rules.specs.Views.{HubView, is_here}
use Rattle.hub_decisions.proofs.Found.{found-borrowed}
use Rattle.hub_decisions.proofs.present.has_key.Goals as goal

pub returns : goal.returns
returns c = c.is_some.ensures ∙ found-borrowed (has_key c.args.key.now) _ _ c.by_nick.ensures.found ∙ ap (λ (hub : HubView). is_here (has_key c.args.key.now) hub) c.hub.view_is
