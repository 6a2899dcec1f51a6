use Rattle.std.proofs.Common.{◌∙◌, ap}
use Rattle.user_table.specs.Tables.{has_sid}
use Rattle.hub_rules.specs.Views.{HubView, is_here}
use Rattle.hub_decisions.proofs.Found.{found-borrowed}
use Rattle.hub_decisions.proofs.present.has_sid.Goals as goal

pub returns : goal.returns
returns c = c.is_some.ensures ∙ found-borrowed (has_sid c.args.sid) _ _ c.by_sid.ensures.found ∙ ap (λ (hub : HubView). is_here (has_sid c.args.sid) hub) c.hub.view_is
