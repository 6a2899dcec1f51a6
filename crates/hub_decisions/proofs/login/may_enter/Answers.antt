use Rattle.std.proofs.Common.{◌∙◌, sym, ap, List, [], unwrap_or}
use Rattle.inf_fields.specs.Field.{Field}
use Rattle.hub_rules.specs.Grounds.{entrant_grounds, first_ground, identifier_grounds, login_grounds}
use Rattle.hub_decisions.proofs.FirstGrounds.{among-first, may-past}
use Rattle.hub_decisions.proofs.KnownUsers.{when-ok}
use Rattle.hub_decisions.proofs.login.may_enter.Goals as goal

pub returns-in-Some : goal.returns-in-Some
unfolding login_grounds
returns-in-Some c =
    λ user same_cid same_key.
    among-first (identifier_grounds c.args.inf.now) (entrant_grounds c.args.hub.now c.args.own.now c.args.now c.args.owner c.args.inf.now user) c.in-Some.deny
    (ap first_ground (sym c.identifier_grounds.ensures) ∙ sym c.first_ground.ensures ∙ c.in-Some.is)

pub returns-in-Some-cid : goal.returns-in-Some-cid
unfolding login_grounds
returns-in-Some-cid c =
    when-ok c.may_enter_as.result c.may_enter_as.ensures
    (λ answer may user same_cid same_key.
    let u : List Field = c.args.inf.now in
    may-past answer user.cid (identifier_grounds u) (entrant_grounds c.args.hub.now c.args.own.now c.args.now c.args.owner u user)
    (ap first_ground (sym c.identifier_grounds.ensures) ∙ sym c.first_ground.ensures ∙ c.in-None.is)
    (may user (same_cid ∙ ap (λ o. unwrap_or o []) (sym c.cid.ensures ∙ c.in-Some-cid.is)) same_key))
