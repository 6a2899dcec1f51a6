-- Which rule denies a line, if one does: the first that applies.
use Rattle.std.specs.Option.{option_or}
use Rattle.std.specs.Prelude.{ℕ, ◌&&◌, not, Bool, true, false, List, [], ◌∷◌, Option, Some, None, Result, Ok, Err, if◌then◌else◌}
use Rattle.adc_base32.specs.Spelled.{spelled_bytes}
use Rattle.adc_line.specs.Lines.{Reading}
use Rattle.inf_fields.specs.Field.{Field}
use Rattle.inf_fields.specs.Updates as updates
use Rattle.inf_fields.specs.declared.fault.InfFault.{InfFault}
use Rattle.login_state.specs.declared.deny.Deny.{Deny}
use Rattle.login_state.specs.declared.deny.Deny.TheVariants as denials
use Rattle.login_state.specs.declared.fault.SupFault.{SupFault}
use Rattle.login_state.specs.SupportAnswers.{support_after}
use Rattle.search_pass.specs.Searches.{may_search}
use Rattle.login_state.specs.declared.request.Request.{Request}
use Rattle.login_state.specs.declared.request.Request.TheVariants as requests
use Rattle.hub_rules.specs.declared.plain_options.PlainOptions.{PlainOptions}
use Rattle.hub_rules.specs.Acts.{act_denied}
use Rattle.hub_rules.specs.Grounds.{first_ground, sup_grounds, login_grounds, password_grounds, update_grounds}
use Rattle.hub_rules.specs.Requests.{request_of, refusal_of}
use Rattle.hub_rules.specs.Views.{HubView, SenderView, PreparedLine, user_after}
use Rattle.hub_rules.specs.Identities.{listed_user}

-- of a SUP: its words, how many features are left, which
abbrev pub sup_denied : Result (List (List ℕ)) SupFault → Option Deny
sup_denied (Ok features) = first_ground (sup_grounds features)
sup_denied (Err fault) = Some denials.Protocol

-- of a login: its words, what they say
abbrev pub login_denied : HubView → SenderView → Option (List ℕ) → ℕ → Result (List Field) InfFault → Option Deny
login_denied hub own digest now (Ok u) = first_ground (login_grounds hub own now digest u (user_after own u))
login_denied hub own digest now (Err fault) = Some denials.Protocol

-- the digest that the first parameter of a PAS spells
abbrev pub digest_given : List (List ℕ) → Option (List ℕ)
digest_given [] = None
digest_given (word ∷ more) = spelled_bytes 24 word

-- of a password: the digest, and then what may have changed since the login
abbrev pub password_denied : HubView → SenderView → ℕ → List (List ℕ) → Option Deny
password_denied hub own now params = first_ground (password_grounds hub own now (digest_given params) (listed_user own.sender.sid own.fields))

-- of an update: its words, what they say
abbrev pub update_denied : HubView → SenderView → Result (List Field) InfFault → Option Deny
update_denied hub own (Ok u) = first_ground (update_grounds hub own u (user_after own u))
update_denied hub own (Err fault) = Some denials.Protocol

-- whether a search may go out at this moment, where the last one that did was at that
abbrev pub is_search_due : PlainOptions → Option ℕ → ℕ → Bool
is_search_due plain last now = may_search last now plain.search_interval

-- of a message to users: where it is a search, when it comes
abbrev pub message_denied : HubView → SenderView → ℕ → Bool → Option Deny
message_denied hub own now search = if search && not (is_search_due hub.setup.plain own.sender.notes.searched now) then Some denials.SearchSoon else None

-- the rules of what the line asks for
unfoldable pub request_denied : HubView → SenderView → PreparedLine → ℕ → Reading → Request → Option Deny
request_denied hub own prepared now line requests.Greeting = sup_denied (support_after own.sender.features line.params)
request_denied hub own prepared now line requests.Login = login_denied hub own prepared.owner now (updates.reading line.params)
request_denied hub own prepared now line requests.Password = password_denied hub own now line.params
request_denied hub own prepared now line requests.Update = update_denied hub own (updates.reading line.params)
request_denied hub own prepared now line requests.Support = sup_denied (support_after own.sender.features line.params)
request_denied hub own prepared now line requests.Act = act_denied hub own now line.params
request_denied hub own prepared now line requests.Search = message_denied hub own now true
request_denied hub own prepared now line requests.Message = message_denied hub own now false
request_denied hub own prepared now line requests.Nothing = None

-- why a line is denied, if it is
abbrev pub denial_of : HubView → SenderView → PreparedLine → ℕ → Reading → Option Deny
denial_of hub own prepared now line =
    option_or (refusal_of own.stage own.sender.sid line) (request_denied hub own prepared now line (request_of own.stage line.kind line.command))
