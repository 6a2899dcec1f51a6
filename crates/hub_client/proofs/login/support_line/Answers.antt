use Rattle.std.proofs.Common.{◌≡◌, List, ℕ, rules, subst, sym}
use Rattle.std.specs.Str.{IsUtf8}
use Rattle.adc_line.specs.Grammar.{Reads}
use Rattle.hub_client.specs.Sayings.{support_text}
use Rattle.hub_client.proofs.Supports.{reads-support, support_message}
use Rattle.hub_client.proofs.login.support_line.Goals as goal

pub returns-clause-refused : goal.returns-clause-refused
returns-clause-refused c =
    let is : c.as_bytes.result.now ≡ support_text c.args.pinger = search rules in
    let utf8 : IsUtf8 (support_text c.args.pinger) = subst IsUtf8 is c.as_bytes.ensures.utf8 in
    c.message_of.ensures.refused (support_message c.args.pinger)
    (subst (λ (bytes : List ℕ). Reads bytes (support_message c.args.pinger)) (sym is) (reads-support c.args.pinger utf8))
