use Rattle.std.proofs.Common.{◌∙◌, ap}
use Rattle.user_table.specs.Tables.{has_cid}
use Rattle.hub_rules.specs.Views.{HubView, is_here}
use Rattle.hub_decisions.proofs.Found.{found-borrowed}
use Rattle.hub_decisions.proofs.present.has_cid.Goals as goal

pub returns : goal.returns
returns c = c.is_some.ensures ∙ found-borrowed (has_cid c.args.cid) _ _ c.by_cid.ensures.found ∙ ap (λ (hub : HubView). is_here (has_cid c.args.cid) hub) c.hub.view_is
