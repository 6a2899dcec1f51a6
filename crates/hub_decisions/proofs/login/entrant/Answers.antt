use Rattle.std.proofs.Common.{◌∙◌, ap}
use Rattle.feature_route.specs.Matching.{feature_set}
use Rattle.hub_rules.specs.Identities.{value_or_empty}
use Rattle.hub_decisions.proofs.Logins.{made-entrant}
use Rattle.hub_decisions.proofs.login.entrant.Goals as goal

pub returns : goal.returns
returns c =
    λ cid_is key_is.
    made-entrant c.new.result c.in_ok-support.support c.args.sid c.args.cid _ c.args.fields c.new.ensures.sid c.new.ensures.cid c.new.ensures.key c.new.ensures.fields
    (c.in_ok-support.ensures ∙ ap feature_set (c.value_in_fields.ensures ∙ ap (λ n. value_or_empty n c.args.fields) c.support.ensures)) cid_is key_is
