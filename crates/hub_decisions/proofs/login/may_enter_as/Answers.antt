use Rattle.std.proofs.Common.{◌∙◌, sym, ap}
use Rattle.hub_rules.specs.Grounds.{first_ground}
use Rattle.hub_decisions.proofs.login.may_enter_as.Goals as goal

pub returns-in-Some : goal.returns-in-Some
returns-in-Some c = λ user same_cid same_key. ap first_ground (sym (c.in_ok-grounds.ensures user same_cid same_key)) ∙ sym c.first_ground.ensures ∙ c.in-Some.is

pub returns-in-None : goal.returns-in-None
returns-in-None c =
    λ user same_cid same_key. (same_cid, ap first_ground (sym (c.in_ok-grounds.ensures user same_cid same_key)) ∙ sym c.first_ground.ensures ∙ c.in-None.is)
