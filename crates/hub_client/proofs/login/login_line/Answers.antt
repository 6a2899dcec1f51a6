use Rattle.std.proofs.Common.{rules, ◌≡◌, ◌<◌, ℕ, List, sym, subst}
use Rattle.std.specs.Prelude.{IfOk}
use Rattle.std.specs.Str.{IsUtf8}
use Rattle.std.specs.String.{string_bytes}
use Rattle.std.proofs.lemmas.Str.{IsUtf8-string_bytes}
use Rattle.adc_base32.specs.Sids.{sid_count}
use Rattle.adc_line.specs.Escapes.{escaped_text}
use Rattle.adc_line.specs.Grammar.{Reads}
use Rattle.hub_client.proofs.ClientMessages.{login_message, nick-short, reads-login}
use Rattle.hub_client.specs.Requests.{nick_bytes}
use Rattle.hub_client.specs.Sayings.{login_text}
use Rattle.hub_client.proofs.login.login_line.Goals as goal

pub returns-clause-exact : goal.returns-clause-exact
returns-clause-exact c =
    let is : c.deref.result.now ≡ login_text c.args.sid c.args.identity.now.cid c.args.identity.now.private (nick_bytes c.args.nick.now) =
    search (
      rules,
      c.deref.ensures.value,
      c.in_ok-extend_from_slice-3.ensures.items,
      c.in_ok-extend_from_slice-2.ensures.items,
      c.in_ok-extend_from_slice.ensures.items,
      c.in_ok-line.ensures.exact,
      c.as_bytes.ensures.value,
      c.in_ok-escape.ensures.spelling,
      c.as_str.ensures,
    ) in
    subst (λ (bytes : List ℕ). IfOk c.message_of.result (λ line. line.text ≡ bytes)) is c.message_of.ensures.text

pub returns-clause-refused : goal.returns-clause-refused
returns-clause-refused c =
    let nick : List ℕ = nick_bytes c.args.nick.now in
    let cid : List ℕ = c.args.identity.now.cid in
    let private : List ℕ = c.args.identity.now.private in
    let below : c.args.sid < sid_count = search rules in
    let spelling : string_bytes c.in_ok-escape.field-0 ≡ escaped_text nick = search rules in
    let utf8 : IsUtf8 (escaped_text nick) = subst IsUtf8 spelling (IsUtf8-string_bytes c.in_ok-escape.field-0) in
    let short = nick-short nick (search rules) c.args.nick.now.nick in
    let is : c.deref.result.now ≡ login_text c.args.sid cid private nick =
    search (
      rules,
      c.deref.ensures.value,
      c.in_ok-extend_from_slice-3.ensures.items,
      c.in_ok-extend_from_slice-2.ensures.items,
      c.in_ok-extend_from_slice.ensures.items,
      c.in_ok-line.ensures.exact,
      c.as_bytes.ensures.value,
      c.in_ok-escape.ensures.spelling,
      c.as_str.ensures,
    ) in
    c.message_of.ensures.refused (login_message c.args.sid cid private nick)
    (subst (λ (bytes : List ℕ). Reads bytes (login_message c.args.sid cid private nick)) (sym is)
    (reads-login c.args.sid cid private nick below c.in_ok-line.ensures.cid c.in_ok-line.ensures.private utf8 short))
