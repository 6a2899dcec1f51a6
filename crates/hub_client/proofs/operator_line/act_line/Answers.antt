use Rattle.std.proofs.Common.{rules, ◌≡◌, subst, List, ℕ}
use Rattle.std.specs.Prelude.{IfOk}
use Rattle.hub_client.specs.Requests.{SaysText, request_bytes}
use Rattle.hub_client.proofs.Requests.{asks-for, request_bytes-some}
use Rattle.hub_client.proofs.operator_line.act_line.Goals as goal

pub message_to_hub-requires : goal.message_to_hub-requires
message_to_hub-requires c none =
    let is : c.deref.result.now ≡ request_bytes c.args.request.now = search rules in
    request_bytes-some c.args.request.now (search rules)

pub returns-clause-asks : goal.returns-clause-asks
returns-clause-asks c =
    let is : c.deref.result.now ≡ request_bytes c.args.request.now = search rules in
    asks-for _ c.message_to_hub.result (search rules)
    (let P : List ℕ → Type 0 = λ text. IfOk c.message_to_hub.result (λ line. SaysText line text) in subst P is c.message_to_hub.ensures.says)
