use Rattle.std.proofs.Common.{◌≢◌, refl, rules}
use Rattle.hub_client.proofs.client.Client.hears_echo.Goals as goal
use Rattle.hub_client.proofs.client.Client.hears_echo.Goals.{then-is_info+in_ok-success_in, else-is_info}

pub returns-clause-heard : goal.returns-clause-heard
returns-clause-heard g c =
    let other : c.in_ok-heard.heard.text ≢ c.args.line.now.text = search rules in
    elim c.if-is_info.branch [
      | then-is_info+in_ok-success_in w ↦ (c.in_ok-heard.heard, c.in_ok-heard.ensures.heard, (other, λ is. (w.in_ok-success_in.field-0, w.in_ok-success_in.ensures.success)))
      | else-is_info w ↦ (c.in_ok-heard.heard, c.in_ok-heard.ensures.heard, (other, λ is. absurd (w.if-is_info.ensures.no refl is)))
    ]
