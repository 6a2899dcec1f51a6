-- The request of a line tells at which stage it was sent, and of which type and command it is.
use Rattle.std.specs.Result.{result_ok}
use Rattle.std.proofs.Common.{◌≡◌, ◌∙◌, sym, ap, ap₂, refl, subst, ℕ, Bool, true, false, ◌&&◌, ◌||◌, List, Option, None, Result, Err}
use Rattle.std.specs.Prelude.{codes, Ok, if◌then◌else◌, cond}
use Rattle.std.specs.Str.{bytes_eq}
use Rattle.adc_line.specs.declared.header.Kind.{Kind}
use Rattle.adc_line.specs.declared.header.Kind.TheVariants as kinds
use Rattle.adc_line.specs.Lines as lines
use Rattle.adc_line.specs.Lines.{Reading}
use Rattle.inf_fields.specs.Updates as updates
use Rattle.login_state.specs.declared.stage.Stage.{Stage}
use Rattle.login_state.specs.declared.stage.Stage.TheVariants as stages
use Rattle.hub_rules.specs.declared.effect.Effect.{Effect}
use Rattle.login_state.specs.declared.deny.Deny.{Deny}
use Rattle.login_state.specs.declared.deny.Deny.TheVariants as denials
use Rattle.login_state.specs.declared.request.Request.{Request}
use Rattle.login_state.specs.declared.request.Request.TheVariants as requests
use Rattle.user_table.specs.Listed.{Listed}
use Rattle.hub_decisions.specs.Known.{IsKnown, KnownAt}
use Rattle.hub_decisions.specs.Requested.{effect_of_asked, effect_of_message, effect_of_request}
use Rattle.hub_rules.specs.Prepared.{is_broadcast, update_of}
use Rattle.login_state.specs.Requests.{bad_stage, is_of_the_hub, is_to_the_hub, request_at, status, to_the_hub, to_users}
use Rattle.hub_rules.specs.Views.{SenderView, PreparedLine, HubView}

-- what is known of a line by what it asks for
abbrev pub Suits : Request → Stage → Kind → List ℕ → Type 0
Suits requests.Login stage kind command = (stage ≡ stages.Identify) × (is_broadcast kind ≡ true) × (bytes_eq command (codes "INF") ≡ true)
Suits requests.Password stage kind command = stage ≡ stages.Verify
Suits requests.Update stage kind command = (stage ≡ stages.Normal) × (is_broadcast kind ≡ true) × (bytes_eq command (codes "INF") ≡ true)
Suits requests.Act stage kind command = stage ≡ stages.Normal
Suits request stage kind command = Unit {0}

abbrev SuitsIn : Result Request Deny → Stage → Kind → List ℕ → Type 0
SuitsIn (Ok request) stage kind command = Suits request stage kind command
SuitsIn (Err deny) stage kind command = Unit {0}

called-fits : (stage : Stage) (kind : Kind) (command : List ℕ) (called : Bool) (this other : Result Request Deny)
    → (called ≡ true → SuitsIn this stage kind command) → SuitsIn other stage kind command → SuitsIn (if called then this else other) stage kind command
called-fits stage kind command true this other first second = first refl
called-fits stage kind command false this other first second = second

users-fit : (stage : Stage) (kind : Kind) (command : List ℕ) → SuitsIn (to_users command) stage kind command
users-fit stage kind command =
    called-fits stage kind command (is_of_the_hub command || is_to_the_hub command) (Err denials.Protocol) _ (λ is. tt)
    (called-fits stage kind command (bytes_eq command (codes "SCH")) (Ok requests.Search) (Ok requests.Message) (λ is. tt) tt)

status-fits : (stage : Stage) (kind : Kind) (command : List ℕ) → SuitsIn (status command) stage kind command
status-fits stage kind command = called-fits stage kind command (bytes_eq command (codes "STA")) (Ok requests.Nothing) (bad_stage kinds.Hub command) (λ is. tt) tt

hub-fits : (kind : Kind) (command : List ℕ) → SuitsIn (to_the_hub command) stages.Normal kind command
hub-fits kind command =
    called-fits _ kind command (is_of_the_hub command || bytes_eq command (codes "INF")) (Err denials.Protocol) _ (λ is. tt)
    (called-fits _ kind command (bytes_eq command (codes "PAS")) (bad_stage kinds.Hub command) _ (λ is. tt)
    (called-fits _ kind command (bytes_eq command (codes "SUP")) (Ok requests.Support) _ (λ is. tt)
    (called-fits _ kind command (bytes_eq command (codes "MSG")) (Ok requests.Act) (Ok requests.Nothing) (λ is. refl) tt)))

asked-fits : (stage : Stage) (kind : Kind) (command : List ℕ) → SuitsIn (request_at stage kind command) stage kind command
unfolding request_at
asked-fits stage kinds.Client command = tt
asked-fits stage kinds.Info command = tt
asked-fits stage kinds.Udp command = tt
asked-fits stages.Protocol kinds.Hub command = called-fits _ _ _ (bytes_eq command (codes "SUP")) (Ok requests.Greeting) _ (λ is. tt) (status-fits _ _ command)
asked-fits stages.Identify kinds.Hub command = status-fits _ _ command
asked-fits stages.Identify kinds.Broadcast command =
    called-fits _ _ _ (bytes_eq command (codes "INF")) (Ok requests.Login) (bad_stage kinds.Broadcast command) (λ is. (refl, refl, is)) tt
asked-fits stages.Verify kinds.Hub command = called-fits _ _ _ (bytes_eq command (codes "PAS")) (Ok requests.Password) _ (λ is. refl) (status-fits _ _ command)
asked-fits stages.Normal kinds.Hub command = hub-fits _ command
asked-fits stages.Normal kinds.Broadcast command = called-fits _ _ _ (bytes_eq command (codes "INF")) (Ok requests.Update) _ (λ is. (refl, refl, is)) (users-fit _ _ command)
asked-fits stages.Normal kinds.Direct command = called-fits _ _ _ (bytes_eq command (codes "INF")) (Err denials.Protocol) _ (λ is. tt) (users-fit _ _ command)
asked-fits stages.Normal kinds.Echo command = called-fits _ _ _ (bytes_eq command (codes "INF")) (Err denials.Protocol) _ (λ is. tt) (users-fit _ _ command)
asked-fits stages.Normal kinds.Feature command = called-fits _ _ _ (bytes_eq command (codes "INF")) (Err denials.Protocol) _ (λ is. tt) (users-fit _ _ command)
asked-fits stage kind command = tt

-- what was found is what the rules say
pub asked-is : (asked found : Result Request Deny) (stage stage' : Stage) (kind kind' : Kind) (command command' : List ℕ)
    → found ≡ request_at stage' kind' command' → stage' ≡ stage → kind' ≡ kind → command' ≡ command → found ≡ asked
    → request_at stage kind command ≡ asked
asked-is asked found stage stage' kind kind' command command' is same_stage same_kind same_command here =
    ap₂ (λ s k. request_at s k command) (sym same_stage) (sym same_kind) ∙ ap (request_at stage' kind') (sym same_command) ∙ sym is ∙ here

pub suits : (request : Request) (stage : Stage) (kind : Kind) (command : List ℕ) → request_at stage kind command ≡ Ok request → Suits request stage kind command
suits request stage kind command asked = subst (λ r. SuitsIn r stage kind command) asked (asked-fits stage kind command)

-- what was read beforehand is what the words of an INF for all say
pub said-of : (line : Reading) (bytes : List ℕ) → lines.reading bytes ≡ Ok line → is_broadcast line.kind ≡ true → bytes_eq line.command (codes "INF") ≡ true
    → result_ok (updates.reading line.params) ≡ update_of (lines.reading bytes)
said-of line bytes reads broadcast called =
    ap (λ b. cond b (result_ok (updates.reading line.params)) None) (sym (ap₂ ◌&&◌ broadcast called)) ∙ ap update_of (sym reads)

pub as-asked : (hub : HubView) (own : SenderView) (prepared : PreparedLine) (now : ℕ) (line : Reading) (request : Request) (effect : Effect)
    → request_at own.stage line.kind line.command ≡ Ok request → effect ≡ effect_of_request hub own prepared now line request → effect ≡ effect_of_message hub own prepared now line
as-asked hub own prepared now line request effect asked is = is ∙ ap (effect_of_asked hub own prepared now line) (sym asked)

-- who is known at a stage at which a connection has a user
pub known-at : (own : SenderView) (user : Option Listed) (stage : Stage) → own.stage ≡ stage → IsKnown own user → KnownAt stage own user
known-at own user stage is known = subst (λ s. KnownAt s own user) is known
