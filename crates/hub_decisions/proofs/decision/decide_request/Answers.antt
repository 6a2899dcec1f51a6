use Rattle.std.proofs.Common.{◌∙◌, sym, ap, Ok}
use Rattle.adc_line.specs.Lines.{Reading}
use Rattle.inf_fields.specs.Updates as updates
use Rattle.login_state.specs.declared.stage.Stage.TheVariants as stages
use Rattle.login_state.specs.declared.request.Request.TheVariants as requests
use Rattle.hub_rules.specs.Denied.{request_denied}
use Rattle.hub_rules.specs.Effects.{accepted_effect}
use Rattle.hub_rules.specs.Views.{SenderView}
use Rattle.hub_decisions.specs.Requested.{effect_of_act, effect_of_login, effect_of_password, effect_of_update}
use Rattle.hub_decisions.proofs.Requests.{as-asked, asked-is, known-at, said-of, suits}
use Rattle.hub_decisions.proofs.KnownUsers.{has-user, no-user, when-ok}
use Rattle.hub_decisions.proofs.Logins.{login-said}
use Rattle.hub_decisions.proofs.Updates.{update-said}
use Rattle.hub_decisions.proofs.decision.decide_request.Goals as goal

pub returns-in-Ok-Login : goal.returns-in-Ok-Login
unfolding request_denied accepted_effect
returns-in-Ok-Login c =
    let own : SenderView = c.args.own.now in
    let message : Reading = c.args.message.now in
    let asked = asked-is (Ok requests.Login) c.request.result own.stage c.own.inside.stage message.kind c.kind.result message.command c.command.result
    c.request.ensures (ap (λ (o : SenderView). o.stage) c.own.view_is) c.kind.ensures c.command.ensures (c.in-Ok-Login.is ∙ ap Ok c.in-Ok-Login.field-0-is) in
    let suited = suits requests.Login own.stage message.kind message.command asked in
    when-ok c.decide_login.result c.decide_login.ensures
    (λ effect is known.
    as-asked c.args.hub.now own c.args.line.now c.args.now message requests.Login effect asked
    (is (known-at own _ stages.Identify suited.0 known)
    ∙ ap (effect_of_login c.args.hub.now own c.args.line.now c.args.now) (sym (said-of message c.args.line.now.bytes c.requires suited.1 suited.2))
    ∙ login-said c.args.hub.now own c.args.line.now c.args.now (updates.reading message.params)))

pub returns-in-Some : goal.returns-in-Some
unfolding request_denied accepted_effect
returns-in-Some c =
    let own : SenderView = c.args.own.now in
    let message : Reading = c.args.message.now in
    let asked = asked-is (Ok requests.Password) c.request.result own.stage c.own.inside.stage message.kind c.kind.result message.command c.command.result
    c.request.ensures (ap (λ (o : SenderView). o.stage) c.own.view_is) c.kind.ensures c.command.ensures (c.in-Ok-Password.is ∙ ap Ok c.in-Ok-Password.field-0-is) in
    let suited = suits requests.Password own.stage message.kind message.command asked in
    when-ok c.decide_password.result c.decide_password.ensures
    (λ effect is known.
    as-asked c.args.hub.now own c.args.line.now c.args.now message requests.Password effect asked
    (is (has-user own c.args.user c.in-Some.user (known-at own _ stages.Verify suited known) c.in-Some.is) ∙ ap (effect_of_password c.args.hub.now own c.args.now) c.params-in-Some.ensures))

pub returns-in-None : goal.returns-in-None
returns-in-None c =
    let own : SenderView = c.args.own.now in
    let message : Reading = c.args.message.now in
    let asked = asked-is (Ok requests.Password) c.request.result own.stage c.own.inside.stage message.kind c.kind.result message.command c.command.result
    c.request.ensures (ap (λ (o : SenderView). o.stage) c.own.view_is) c.kind.ensures c.command.ensures (c.in-Ok-Password.is ∙ ap Ok c.in-Ok-Password.field-0-is) in
    let suited = suits requests.Password own.stage message.kind message.command asked in
    λ known. absurd (no-user own c.args.user (known-at own _ stages.Verify suited known) c.in-None.is)

pub returns-in-Some-user : goal.returns-in-Some-user
unfolding request_denied accepted_effect
returns-in-Some-user c =
    let own : SenderView = c.args.own.now in
    let message : Reading = c.args.message.now in
    let asked = asked-is (Ok requests.Update) c.request.result own.stage c.own.inside.stage message.kind c.kind.result message.command c.command.result
    c.request.ensures (ap (λ (o : SenderView). o.stage) c.own.view_is) c.kind.ensures c.command.ensures (c.in-Ok-Update.is ∙ ap Ok c.in-Ok-Update.field-0-is) in
    let suited = suits requests.Update own.stage message.kind message.command asked in
    when-ok c.decide_update.result c.decide_update.ensures
    (λ effect is known.
    as-asked c.args.hub.now own c.args.line.now c.args.now message requests.Update effect asked
    (is (has-user own c.args.user c.in-Some-user.user (known-at own _ stages.Normal suited.0 known) c.in-Some-user.is)
    ∙ ap (effect_of_update c.args.hub.now own) (sym (said-of message c.args.line.now.bytes c.requires suited.1 suited.2))
    ∙ update-said c.args.hub.now own (updates.reading message.params)))

pub returns-in-None-user : goal.returns-in-None-user
returns-in-None-user c =
    let own : SenderView = c.args.own.now in
    let message : Reading = c.args.message.now in
    let asked = asked-is (Ok requests.Update) c.request.result own.stage c.own.inside.stage message.kind c.kind.result message.command c.command.result
    c.request.ensures (ap (λ (o : SenderView). o.stage) c.own.view_is) c.kind.ensures c.command.ensures (c.in-Ok-Update.is ∙ ap Ok c.in-Ok-Update.field-0-is) in
    let suited = suits requests.Update own.stage message.kind message.command asked in
    λ known. absurd (no-user own c.args.user (known-at own _ stages.Normal suited.0 known) c.in-None-user.is)

pub returns-in-Some-user-2 : goal.returns-in-Some-user-2
unfolding request_denied accepted_effect
returns-in-Some-user-2 c =
    let own : SenderView = c.args.own.now in
    let message : Reading = c.args.message.now in
    let asked = asked-is (Ok requests.Act) c.request.result own.stage c.own.inside.stage message.kind c.kind.result message.command c.command.result
    c.request.ensures (ap (λ (o : SenderView). o.stage) c.own.view_is) c.kind.ensures c.command.ensures (c.in-Ok-Act.is ∙ ap Ok c.in-Ok-Act.field-0-is) in
    let suited = suits requests.Act own.stage message.kind message.command asked in
    when-ok c.decide_hub_message.result c.decide_hub_message.ensures
    (λ effect is known.
    as-asked c.args.hub.now own c.args.line.now c.args.now message requests.Act effect asked
    (is (has-user own c.args.user c.in-Some-user-2.user (known-at own _ stages.Normal suited known) c.in-Some-user-2.is) ∙ ap (effect_of_act c.args.hub.now own c.args.now) c.params-in-Some-user-2.ensures))

pub returns-in-None-user-2 : goal.returns-in-None-user-2
returns-in-None-user-2 c =
    let own : SenderView = c.args.own.now in
    let message : Reading = c.args.message.now in
    let asked = asked-is (Ok requests.Act) c.request.result own.stage c.own.inside.stage message.kind c.kind.result message.command c.command.result
    c.request.ensures (ap (λ (o : SenderView). o.stage) c.own.view_is) c.kind.ensures c.command.ensures (c.in-Ok-Act.is ∙ ap Ok c.in-Ok-Act.field-0-is) in
    let suited = suits requests.Act own.stage message.kind message.command asked in
    λ known. absurd (no-user own c.args.user (known-at own _ stages.Normal suited known) c.in-None-user-2.is)
