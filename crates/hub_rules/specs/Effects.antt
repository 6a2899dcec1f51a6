-- The effect of a line: who is told what, what becomes of its connection, what changes for all.
use Rattle.std.specs.Prelude.{ℕ, ◌-◌, ◌==◌, Bool, true, false, List, [], ◌∷◌, ◌++◌, length, map, Option, Result, Ok, Err, if◌then◌else◌, chars}
use Rattle.std.specs.Option.{option_map_or, option_map, unwrap_or}
use Rattle.adc_line.specs.declared.fault.LineFault.{LineFault}
use Rattle.adc_line.specs.Lines as lines
use Rattle.adc_line.specs.Lines.{Reading}
use Rattle.feature_route.specs.Audiences.{audience}
use Rattle.feature_route.specs.Matching.{feature_set}
use Rattle.feature_route.specs.declared.receivers.Audience.{Audience}
use Rattle.feature_route.specs.declared.receivers.Audience.TheVariants as audiences
use Rattle.inf_fields.specs.Cleaning.{clean}
use Rattle.inf_fields.specs.Field.{Field, value_of}
use Rattle.inf_fields.specs.FieldNames.{nick_name}
use Rattle.inf_fields.specs.Merging.{merged_with}
use Rattle.inf_fields.specs.Updates as updates
use Rattle.inf_fields.specs.declared.fault.InfFault.{InfFault}
use Rattle.login_state.specs.declared.deny.Deny.{Deny}
use Rattle.login_state.specs.declared.deny.Deny.TheVariants.{Protocol}
use Rattle.login_state.specs.declared.fault.SupFault.{SupFault}
use Rattle.login_state.specs.declared.stage.Stage.{Stage}
use Rattle.login_state.specs.declared.stage.Stage.TheVariants as stages
use Rattle.login_state.specs.Denials.{denial_line, is_fatal}
use Rattle.login_state.specs.Mentions.{ping, ucmd}
use Rattle.login_state.specs.Support.{has_feature}
use Rattle.login_state.specs.SupportAnswers.{support_after}
use Rattle.outboxes.specs.Quits.{quit_line}
use Rattle.user_table.specs.Listed.{Listed}
use Rattle.user_table.specs.Tables.{has_sid, totals_of}
use Rattle.hub_rules.specs.declared.effect.Change.{Change}
use Rattle.hub_rules.specs.declared.effect.Change.TheVariants.{Nothing, Sender}
use Rattle.hub_rules.specs.declared.effect.Effect.{Effect}
use Rattle.hub_rules.specs.declared.effect.Entrant.{Entrant}
use Rattle.hub_rules.specs.declared.effect.Hearers.TheVariants.{Others, Those}
use Rattle.hub_rules.specs.declared.effect.Revision.{Revision}
use Rattle.hub_rules.specs.declared.effect.SenderChange.TheVariants as senders
use Rattle.login_state.specs.declared.request.Request.{Request}
use Rattle.login_state.specs.declared.request.Request.TheVariants as requests
use Rattle.hub_rules.specs.Acts.{act_effect}
use Rattle.hub_rules.specs.Denied.{denial_of}
use Rattle.hub_rules.specs.Identities.{meaning, listed_user, su_in}
use Rattle.hub_rules.specs.Quiet.{nothing}
use Rattle.hub_rules.specs.Requests.{request_of}
use Rattle.hub_rules.specs.Views.{HubView, SenderView, PreparedLine, account_of, is_account, is_here, user_after}
use Rattle.hub_rules.specs.Texts.{with_line_feed, support_line, identifier_line, ping_fields, hub_line, challenge_line, user_line, update_line, menu_line}

-- nothing more will ever come from or to such a connection
abbrev pub is_over : Stage → Bool
is_over stages.Gone = true
is_over stage = false

-- its user is present
abbrev pub is_present : Stage → Bool
is_present stages.Normal = true
is_present stage = false

-- the sender is told this, and the others who are present that
abbrev pub tells_others : List (List ℕ) → List (List ℕ) → Change → Effect
tells_others own others change = record { own = own; others = others; hearers = Others; change = change }

-- the sender alone is told
abbrev pub tells_sender : List (List ℕ) → Change → Effect
tells_sender own change = tells_others own [] change

-- those of the users who are present are told for whom it is
abbrev pub tells_users : List (List ℕ) → Audience → Change → Effect
tells_users lines audience change = record { own = []; others = lines; hearers = Those audience; change = change }

-- ---- denials and departures

-- the others who are present hear that a user left, where it was present
abbrev pub farewell : Stage → ℕ → List (List ℕ)
farewell stage sid = if is_present stage then quit_line sid ∷ [] else []

-- the connection is told why, and shut out where that is fatal
unfoldable pub denial : SenderView → Deny → Effect
denial own deny =
    if is_fatal deny then tells_others (denial_line deny ∷ []) (farewell own.stage own.sender.sid) (Sender senders.Falls)
    else tells_sender (denial_line deny ∷ []) Nothing

-- a connection leaves
abbrev pub departure : Stage → ℕ → Effect
departure stage sid = tells_others [] (farewell stage sid) (Sender senders.Falls)

-- ---- SUP

-- what a client hears that asked about the hub
abbrev pub ping_of : HubView → ℕ → List (List ℕ) → List ℕ
ping_of hub now features =
    if has_feature ping features then ping_fields (totals_of hub.users) hub.setup.plain.max_users (now - hub.setup.plain.opening) else []

abbrev pub greeting : HubView → ℕ → ℕ → List (List ℕ) → List (List ℕ)
greeting hub now sid features = support_line ∷ identifier_line sid ∷ hub_line hub.setup hub.topic (ping_of hub now features) ∷ []

-- the client is greeted, and may log in
abbrev pub greets : HubView → SenderView → ℕ → Result (List (List ℕ)) SupFault → Effect
greets hub own now (Ok features) = tells_sender (greeting hub now own.sender.sid features) (Sender (senders.Greets features))
greets hub own now (Err fault) = nothing

-- the client supports other features from now on
abbrev pub learns : Result (List (List ℕ)) SupFault → Effect
learns (Ok features) = tells_sender [] (Sender (senders.Learns features))
learns (Err fault) = nothing

-- ---- entering

abbrev pub line_of : HubView → Listed → List ℕ
line_of hub user = user_line user.sid user.fields (account_of hub user.key)

-- the users who are present, the newcomer itself, and the menu where its client has one
abbrev pub welcome : HubView → List (List ℕ) → Listed → List (List ℕ)
welcome hub features user =
    map (line_of hub) hub.users ++ line_of hub user ∷ (if has_feature ucmd features then map menu_line hub.setup.menu else [])

-- a user enters: it hears who is there, and the others hear of it
abbrev pub enters : HubView → SenderView → Listed → Change → Effect
enters hub own user change = tells_others (welcome hub own.sender.features user) (line_of hub user ∷ []) change

abbrev pub entrant : Listed → Entrant
entrant user = record { user = user; support = feature_set (su_in user.fields) }

-- a user with an account is asked for the password, and another enters
abbrev pub admits : HubView → SenderView → PreparedLine → Bool → Listed → Effect
admits hub own prepared true user =
    tells_sender (challenge_line own.sender.challenge ∷ []) (Sender (senders.Waits (entrant user) (unwrap_or prepared.password [])))
admits hub own prepared false user = enters hub own user (Sender (senders.EntersAs (entrant user)))

abbrev pub logs_in : HubView → SenderView → PreparedLine → Result (List Field) InfFault → Effect
logs_in hub own prepared (Ok u) = admits hub own prepared (is_account hub (user_after own u).key) (user_after own u)
logs_in hub own prepared (Err fault) = nothing

-- ---- updates

abbrev pub line_unless_empty : ℕ → List Field → List (List ℕ)
line_unless_empty sid u = if length u == 0 then [] else update_line sid u ∷ []

abbrev pub revision : SenderView → List Field → Revision
revision own u = record {
  update = u;
  nick = option_map (λ (word : List ℕ). chars (meaning word)) (value_of nick_name u);
  support = feature_set (su_in (merged_with own.fields u));
}

-- all who are present hear what changes
abbrev pub update_effect : SenderView → List Field → Effect
update_effect own u = tells_users (line_unless_empty own.sender.sid u) audiences.All (Sender (senders.Updates (revision own u)))

abbrev pub updates_user : SenderView → Result (List Field) InfFault → Effect
updates_user own (Ok u) = update_effect own (clean u own.sender.peer)
updates_user own (Err fault) = nothing

-- ---- messages

abbrev pub is_target_here : HubView → Option ℕ → Bool
is_target_here hub target = option_map_or (λ (sid : ℕ). is_here (has_sid sid) hub) target false

-- those for whom it is hear the line as it came
abbrev pub passes_on : HubView → Reading → Change → Effect
passes_on hub line change = tells_users (with_line_feed line.text ∷ []) (audience line (is_target_here hub line.target)) change

-- ---- any line

-- what an accepted line leads to, by what it asks for
unfoldable pub accepted_effect : HubView → SenderView → PreparedLine → ℕ → Reading → Request → Effect
accepted_effect hub own prepared now line requests.Greeting = greets hub own now (support_after own.sender.features line.params)
accepted_effect hub own prepared now line requests.Login = logs_in hub own prepared (updates.reading line.params)
accepted_effect hub own prepared now line requests.Password = enters hub own (listed_user own.sender.sid own.fields) (Sender senders.Enters)
accepted_effect hub own prepared now line requests.Update = updates_user own (updates.reading line.params)
accepted_effect hub own prepared now line requests.Support = learns (support_after own.sender.features line.params)
accepted_effect hub own prepared now line requests.Act = act_effect hub own now line.params
accepted_effect hub own prepared now line requests.Search = passes_on hub line (Sender (senders.Searches now))
accepted_effect hub own prepared now line requests.Message = passes_on hub line Nothing
accepted_effect hub own prepared now line requests.Nothing = nothing

abbrev pub unless_denied : SenderView → Option Deny → Effect → Effect
unless_denied own refusal effect = option_map_or (denial own) refusal effect

abbrev pub effect_of_reading : HubView → SenderView → PreparedLine → ℕ → Result Reading LineFault → Effect
effect_of_reading hub own prepared now (Ok line) =
    unless_denied own (denial_of hub own prepared now line) (accepted_effect hub own prepared now line (request_of own.stage line.kind line.command))
effect_of_reading hub own prepared now (Err fault) = denial own Protocol

-- The effect of a line. A connection that is shut out is not heard, and an empty line keeps a connection alive and leads to nothing.
unfoldable pub line_effect : HubView → SenderView → PreparedLine → ℕ → Effect
line_effect hub own prepared now =
    if is_over own.stage then nothing
    else if length prepared.bytes == 0 then nothing
    else effect_of_reading hub own prepared now (lines.reading prepared.bytes)
