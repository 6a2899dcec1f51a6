use Rattle.std.proofs.Common.{rules, ◌≡◌}
use Rattle.std.specs.Str.{IsUtf8}
use Rattle.std.proofs.lemmas.Str.{IsUtf8-string_bytes}
use Rattle.hub_client.specs.Requests.{message_bytes}
use Rattle.hub_client.proofs.Messages.{says-read, refused-read}
use Rattle.hub_client.proofs.operator_line.message_to_hub.Goals as goal

pub returns-clause-says : goal.returns-clause-says
returns-clause-says c =
    let is : c.as_bytes.result.now ≡ message_bytes c.args.text.now = search rules in
    let utf8 : IsUtf8 c.as_bytes.result.now = rw c.as_bytes.ensures.value (IsUtf8-string_bytes c.push_str.new.self) in
    says-read _ _ c.parse.result is c.requires utf8 (search rules) c.parse.ensures.only

pub returns-clause-refused : goal.returns-clause-refused
returns-clause-refused c =
    let is : c.as_bytes.result.now ≡ message_bytes c.args.text.now = search rules in
    let utf8 : IsUtf8 c.as_bytes.result.now = rw c.as_bytes.ensures.value (IsUtf8-string_bytes c.push_str.new.self) in
    refused-read _ _ c.parse.result is c.requires utf8 (search rules) c.parse.ensures.only
