-- The effect of a line that asks for one thing, by the rules of that.
use Rattle.std.specs.Prelude.{◌≡◌, ℕ, Bool, if◌then◌else◌, List, MatchResult, Ok, Err, Option, None, Result, Some}
use Rattle.inf_fields.specs.Field.{Field}
use Rattle.adc_line.specs.Lines as lines
use Rattle.adc_line.specs.Lines.{Reading}
use Rattle.login_state.specs.declared.deny.Deny.{Deny}
use Rattle.login_state.specs.declared.deny.Deny.TheVariants.{Protocol}
use Rattle.login_state.specs.declared.fault.SupFault.{SupFault}
use Rattle.login_state.specs.Requests.{request_at}
use Rattle.login_state.specs.SupportAnswers.{support_after}
use Rattle.hub_rules.specs.declared.effect.Change.{Change}
use Rattle.hub_rules.specs.declared.effect.Change.TheVariants.{Nothing, Sender}
use Rattle.hub_rules.specs.declared.effect.Effect.{Effect}
use Rattle.hub_rules.specs.declared.effect.SenderChange.TheVariants.{Enters, Searches}
use Rattle.login_state.specs.declared.request.Request.{Request}
use Rattle.hub_rules.specs.Acts.{act_denied, act_effect}
use Rattle.hub_rules.specs.Denied.{login_denied, message_denied, password_denied, request_denied, sup_denied, update_denied}
use Rattle.hub_rules.specs.Effects.{accepted_effect, denial, enters, greets, learns, logs_in, passes_on, unless_denied, updates_user}
use Rattle.hub_rules.specs.Identities.{listed_user}
use Rattle.hub_rules.specs.Prepared.{update_of}
use Rattle.hub_rules.specs.Views.{SenderView, PreparedLine, HubView}

-- what a SUP leaves supported, where nothing denies it, and else the denial
abbrev pub Supports : Result (List (List ℕ)) Deny → Result (List (List ℕ)) SupFault → Type 0
Supports answer after = MatchResult answer (λ features. (after ≡ Ok features) × (sup_denied after ≡ None)) (λ deny. sup_denied after ≡ Some deny)

abbrev pub effect_of_greeting : HubView → SenderView → ℕ → List (List ℕ) → Effect
effect_of_greeting hub own now params = unless_denied own (sup_denied (support_after own.sender.features params)) (greets hub own now (support_after own.sender.features params))

abbrev pub effect_of_support : SenderView → List (List ℕ) → Effect
effect_of_support own params = unless_denied own (sup_denied (support_after own.sender.features params)) (learns (support_after own.sender.features params))

-- what the INF says that the line is, if it is one whose words make an update
abbrev pub inf_in : PreparedLine → Option (List Field)
inf_in line = update_of (lines.reading line.bytes)

-- by what it says
abbrev pub effect_of_login : HubView → SenderView → PreparedLine → ℕ → Option (List Field) → Effect
effect_of_login hub own line now None = denial own Protocol
effect_of_login hub own line now (Some u) = unless_denied own (login_denied hub own line.owner now (Ok u)) (logs_in hub own line (Ok u))

abbrev pub effect_of_update : HubView → SenderView → Option (List Field) → Effect
effect_of_update hub own None = denial own Protocol
effect_of_update hub own (Some u) = unless_denied own (update_denied hub own (Ok u)) (updates_user own (Ok u))

abbrev pub effect_of_password : HubView → SenderView → ℕ → List (List ℕ) → Effect
effect_of_password hub own now params = unless_denied own (password_denied hub own now params) (enters hub own (listed_user own.sender.sid own.fields) (Sender Enters))

abbrev pub effect_of_act : HubView → SenderView → ℕ → List (List ℕ) → Effect
effect_of_act hub own now params = unless_denied own (act_denied hub own now params) (act_effect hub own now params)

-- what a message to users changes at its sender
abbrev pub change_of_route : ℕ → Bool → Change
change_of_route now search = if search then Sender (Searches now) else Nothing

abbrev pub effect_of_route : HubView → SenderView → ℕ → Reading → Bool → Effect
effect_of_route hub own now line search = unless_denied own (message_denied hub own now search) (passes_on hub line (change_of_route now search))

abbrev pub effect_of_request : HubView → SenderView → PreparedLine → ℕ → Reading → Request → Effect
effect_of_request hub own prepared now line request = unless_denied own (request_denied hub own prepared now line request) (accepted_effect hub own prepared now line request)

-- by what it asks for, or why that is denied
abbrev pub effect_of_asked : HubView → SenderView → PreparedLine → ℕ → Reading → Result Request Deny → Effect
effect_of_asked hub own prepared now line (Ok request) = effect_of_request hub own prepared now line request
effect_of_asked hub own prepared now line (Err deny) = denial own deny

-- of a line in the name of its own connection
abbrev pub effect_of_message : HubView → SenderView → PreparedLine → ℕ → Reading → Effect
effect_of_message hub own prepared now line = effect_of_asked hub own prepared now line (request_at own.stage line.kind line.command)
