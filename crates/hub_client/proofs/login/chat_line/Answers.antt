use Rattle.std.proofs.Common.{rules, ◌≡◌, ◌<◌, ◌∙◌, sym, subst}
use Rattle.std.specs.Str.{IsUtf8}
use Rattle.std.proofs.lemmas.Str.{IsUtf8-string_bytes}
use Rattle.adc_base32.specs.Sids.{sid_count}
use Rattle.adc_line.specs.Escapes.{escaped_text}
use Rattle.hub_client.specs.Sayings.{chat_text}
use Rattle.hub_client.proofs.ClientMessages.{unsayable-chat}
use Rattle.hub_client.proofs.login.chat_line.Goals as goal

pub returns-clause-unsayable : goal.returns-clause-unsayable
returns-clause-unsayable c =
    let below : c.args.sid < sid_count = search rules in
    let utf8 : IsUtf8 (escaped_text c.args.text.now) = subst IsUtf8 c.in_ok-escape.ensures.spelling (IsUtf8-string_bytes c.in_ok-escape.field-0) in
    let is : c.deref.result.now ≡ chat_text c.args.sid c.args.text.now = search rules in
    unsayable-chat c.args.sid c.args.text.now _ c.message_of.result below utf8 is c.message_of.ensures.refused
