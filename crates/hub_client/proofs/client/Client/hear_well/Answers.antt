use Rattle.hub_client.proofs.client.Client.hear_well.Goals as goal
use Rattle.hub_client.proofs.client.Client.hear_well.Goals.{then-is_info+in_ok-success_in, else-is_info}
use Rattle.std.proofs.Common.{refl}

pub returns-clause-well : goal.returns-clause-well
returns-clause-well g c =
    elim c.if-is_info.branch [
      | then-is_info+in_ok-success_in w ↦ λ is. (w.in_ok-success_in.field-0, w.in_ok-success_in.ensures.success)
      | else-is_info w ↦ λ is. absurd (w.if-is_info.ensures.no refl is)
    ]
