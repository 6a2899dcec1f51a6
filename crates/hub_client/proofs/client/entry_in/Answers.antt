use Rattle.std.proofs.Common.{refl}
use Rattle.std.specs.Prelude.{codes}
use Rattle.hub_client.specs.Entries.{IsHubInfo}
use Rattle.hub_client.proofs.client.entry_in.Goals as goal

pub returns-then-is_info-clause-entry : goal.returns-then-is_info-clause-entry
returns-then-is_info-clause-entry c = c.in_ok-challenge_in.ensures.challenge c.args.sid

-- a status is a message of the hub alone, so it tells of no user
pub returns-then-is_info-2-clause-entry : goal.returns-then-is_info-2-clause-entry
returns-then-is_info-2-clause-entry c =
    let is : IsHubInfo c.args.line.now (codes "STA") = c.if-is_info-2.ensures.yes refl in
    ((λ user. let kind = user.0.0 in let other = is.0 in cc), c.if-is_info.ensures.no refl, (λ same. (c.in_ok-success_in.field-0, c.in_ok-success_in.ensures.success)))
