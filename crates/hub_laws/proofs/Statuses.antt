-- The words that a denial names are a type's letter and a command, so that each status has words only.
use Rattle.std.proofs.Common.{◌≡◌, ◌∙◌, sym, ap, ap₂, refl, ℕ, Bool, true, false, ◌&&◌, ◌==◌, List, [], ◌∷◌, length, arith}
use Rattle.std.specs.Prelude.{Option, Some, None, Result, Ok, Err, if◌then◌else◌, slice_index}
use Rattle.std.specs.List.{list_all}
use Rattle.std.specs.Option.{option_map_or}
use Rattle.std.specs.Result.{result_err}
use Rattle.adc_line.specs.Grammar.{IsCommand}
use Rattle.inf_fields.specs.Field.{Field}
use Rattle.inf_fields.specs.declared.fault.InfFault.{InfFault}
use Rattle.login_state.specs.Denials.{denial_line, is_fatal}
use Rattle.login_state.specs.SupportAnswers.{support_after}
use Rattle.login_state.specs.declared.fault.SupFault.{SupFault}
use Rattle.operator_acts.specs.declared.act.Act.{Act}
use Rattle.operator_acts.specs.declared.left.Left.{Left}
use Rattle.hub_rules.specs.Denied.{message_denied, sup_denied}
use Rattle.hub_rules.specs.Grounds.{sup_grounds}
use Rattle.hub_invariants.specs.Said.{kept_unless, unless_refused}
use Rattle.hub_laws.proofs.Words.{AllByRecursion, Deny, Effect, Kind, LineFault, SenderView, PreparedLine, Reading, Reads-of, Request, HubView, Stage, accepted_line, act_denied, answer_to, denial, denial_of, effect_of_reading, farewell, left_of_bans, ban_ground}
use Rattle.hub_laws.proofs.Words.{digest_given, entry_grounds, first_ground, is_over, line_effect, listed_user, login_denied, login_grounds, option_or, password_grounds, refusal_of, request_at, request_denied}
use Rattle.hub_laws.proofs.Words.{Nothing, Sender, names_another, nothing, tells_others, tells_sender, unless_denied, update_denied, update_grounds, user_after}
use Rattle.hub_laws.proofs.Pieces.{is_plain_byte, letter-digit-plain, letter-plain}
use Rattle.hub_laws.proofs.Words.denials
use Rattle.hub_laws.proofs.Words.lines
use Rattle.hub_laws.proofs.Words.requests
use Rattle.hub_laws.proofs.Words.senders
use Rattle.hub_laws.proofs.Words.updates

-- ---- what denials name

-- bytes that stand for themselves
unfoldable pub is_plain : List ℕ → Bool
is_plain word = list_all is_plain_byte word

-- the word that a denial names has such bytes only
abbrev pub is_said : Deny → Bool
is_said (denials.BadStage word) = is_plain word
is_said (denials.Access word) = is_plain word
is_said deny = true

abbrev are_said : Option Deny → Bool
are_said denial = option_map_or is_said denial true

abbrev all_said : List (Bool × Deny) → Bool
all_said grounds = list_all (λ (ground : Bool × Deny). is_said ground.1) grounds

first-true : (a b : Bool) → (a && b) ≡ true → a ≡ true
first-true a b is = grind arith

second-true : (a b : Bool) → (a && b) ≡ true → b ≡ true
second-true a b is = grind arith

said-first : (grounds : List (Bool × Deny)) → all_said grounds ≡ true → are_said (first_ground grounds) ≡ true
said-first [] all = refl
said-first ((true, deny) ∷ grounds) all = first-true (is_said deny) (all_said grounds) all
said-first ((false, deny) ∷ grounds) all = said-first grounds (second-true (is_said deny) (all_said grounds) all)

-- ---- the rules of each request

said-sup : (r : Result (List (List ℕ)) SupFault) → are_said (sup_denied r) ≡ true
said-sup (Ok features) = said-first (sup_grounds features) refl
said-sup (Err fault) = refl

ban-said : (l : Left) → (is_said (ban_ground l).1 && true) ≡ true
ban-said l = grind arith

said-login : (hub : HubView) (own : SenderView) (digest : Option (List ℕ)) (now : ℕ) (r : Result (List Field) InfFault) → are_said (login_denied hub own digest now r) ≡ true
unfolding login_grounds
said-login hub own digest now (Ok u) =
    said-first (login_grounds hub own now digest u (user_after own u)) (ban-said (left_of_bans hub.bans (user_after own u).cid now))
said-login hub own digest now (Err fault) = refl

said-update : (hub : HubView) (own : SenderView) (r : Result (List Field) InfFault) → are_said (update_denied hub own r) ≡ true
unfolding update_grounds is_plain
said-update hub own (Ok u) = said-first (update_grounds hub own u (user_after own u)) refl
said-update hub own (Err fault) = refl

said-answer : (hub : HubView) (own : SenderView) (now : ℕ) (act : Option Act) → are_said (result_err (answer_to hub own now act)) ≡ true
said-answer hub own now act = grind arith

said-act : (hub : HubView) (own : SenderView) (now : ℕ) (params : List (List ℕ)) → are_said (act_denied hub own now params) ≡ true
unfolding act_denied is_plain
said-act hub own now params = grind (arith, said-answer)

said-message : (hub : HubView) (own : SenderView) (now : ℕ) (search : Bool) → are_said (message_denied hub own now search) ≡ true
said-message hub own now search = grind arith

said-request : (hub : HubView) (own : SenderView) (line : PreparedLine) (now : ℕ) (reading : Reading) (request : Request) → are_said (request_denied hub own line now reading request) ≡ true
unfolding request_denied entry_grounds
said-request hub own line now reading requests.Greeting = said-sup (support_after own.sender.features reading.params)
said-request hub own line now reading requests.Login = said-login hub own line.owner now (updates.reading reading.params)
said-request hub own line now reading requests.Password =
    said-first (password_grounds hub own now (digest_given reading.params) (listed_user own.sender.sid own.fields))
    (ban-said (left_of_bans hub.bans (listed_user own.sender.sid own.fields).cid now))
said-request hub own line now reading requests.Update = said-update hub own (updates.reading reading.params)
said-request hub own line now reading requests.Support = said-sup (support_after own.sender.features reading.params)
said-request hub own line now reading requests.Act = said-act hub own now reading.params
said-request hub own line now reading requests.Search = said-message hub own now true
said-request hub own line now reading requests.Message = said-message hub own now false
said-request hub own line now reading requests.Nothing = refl

-- ---- the rules of every line

plain-more : (b : ℕ) (word : List ℕ) → is_plain_byte b ≡ true → is_plain word ≡ true → is_plain (b ∷ word) ≡ true
unfolding is_plain
plain-more b word plain more = ap₂ ◌&&◌ plain more

plain-none : is_plain [] ≡ true
unfolding is_plain
plain-none = refl

command-plain : (command : List ℕ) → IsCommand command → is_plain command ≡ true
command-plain command is =
    ap is_plain is.3 ∙ plain-more is.0 (is.1 ∷ is.2 ∷ []) (letter-plain is.0 is.4)
    (plain-more is.1 (is.2 ∷ []) (letter-digit-plain is.1 is.5) (plain-more is.2 [] (letter-digit-plain is.2 is.6) plain-none))

-- a command behind the letter of each type that may come too early
record IsNamed (command : List ℕ) : Type 0 where
  broadcast : is_plain (66 ∷ command) ≡ true
  direct : is_plain (68 ∷ command) ≡ true
  echo : is_plain (69 ∷ command) ≡ true
  feature : is_plain (70 ∷ command) ≡ true
  hub : is_plain (72 ∷ command) ≡ true

named : (command : List ℕ) → is_plain command ≡ true → IsNamed command
named command plain = record {
  broadcast = plain-more 66 command refl plain;
  direct = plain-more 68 command refl plain;
  echo = plain-more 69 command refl plain;
  feature = plain-more 70 command refl plain;
  hub = plain-more 72 command refl plain;
}

abbrev three : List ℕ → List ℕ
three command = slice_index command 0 ∷ slice_index command 1 ∷ slice_index command 2 ∷ []

said-asked : (stage : Stage) (kind : Kind) (command : List ℕ) → IsNamed (three command) → are_said (result_err (request_at stage kind command)) ≡ true
unfolding request_at
said-asked stage kind command names = grind arith

said-refusal : (stage : Stage) (sid : ℕ) (reading : Reading) → IsCommand reading.command → are_said (refusal_of stage sid reading) ≡ true
said-refusal stage sid reading is =
    by-name (names_another sid reading.from)
    (said-asked stage reading.kind reading.command (named (three reading.command) (ap (λ (command : List ℕ). is_plain (three command)) is.3 ∙ ap is_plain (sym is.3) ∙ command-plain reading.command is)))
  where
    by-name : (other : Bool) → are_said (result_err (request_at stage reading.kind reading.command)) ≡ true
        → are_said (if other then Some denials.WrongSid else result_err (request_at stage reading.kind reading.command)) ≡ true
    by-name true said = refl
    by-name false said = said

said-either : (first later : Option Deny) → are_said first ≡ true → are_said later ≡ true → are_said (option_or first later) ≡ true
said-either (Some deny) later is more = is
said-either None later is more = more

said-denial : (hub : HubView) (own : SenderView) (line : PreparedLine) (now : ℕ) (reading : Reading) → IsCommand reading.command → are_said (denial_of hub own line now reading) ≡ true
said-denial hub own line now reading is = said-either _ _ (said-refusal own.stage own.sender.sid reading is) (said-request hub own line now reading _)

-- ---- what the sender of a line that is not accepted is told

-- a status that names such a word, if it names one
abbrev pub IsStatus : List ℕ → Type 0
IsStatus line = (deny : Deny) × (is_said deny ≡ true) × (line ≡ denial_line deny)

abbrev AreStatuses : Effect → Type 0
AreStatuses effect = AllByRecursion IsStatus effect.own

denial-told : (own : SenderView) (deny : Deny) → is_said deny ≡ true → AreStatuses (denial own deny)
unfolding denial
denial-told own deny said = by-weight (is_fatal deny)
  where
    by-weight : (fatal : Bool) → AreStatuses (if fatal then tells_others (denial_line deny ∷ []) (farewell own.stage own.sender.sid) (Sender senders.Falls) else tells_sender (denial_line deny ∷ []) Nothing)
    by-weight true = ((deny, said, refl), tt)
    by-weight false = ((deny, said, refl), tt)

refused : (own : SenderView) (reading : Reading) (refusal : Option Deny) (effect : Effect) → are_said refusal ≡ true → kept_unless refusal reading ≡ None → AreStatuses (unless_denied own refusal effect)
refused own reading (Some deny) effect said none = denial-told own deny said
refused own reading None effect said none = let nothing : ⊥ = cc in absurd nothing

reading-told : (hub : HubView) (own : SenderView) (line : PreparedLine) (now : ℕ) (r : Result Reading LineFault) → lines.reading line.bytes ≡ r → unless_refused hub own line now r ≡ None
    → AreStatuses (effect_of_reading hub own line now r)
reading-told hub own line now (Ok reading) is none =
    refused own reading (denial_of hub own line now reading) _ (said-denial hub own line now reading (Reads-of line.bytes reading is).command) none
reading-told hub own line now (Err fault) is none = denial-told own denials.Protocol refl

unless-told : (b : Bool) (said : Option Reading) (effect : Effect) → (said ≡ None → AreStatuses effect) → (if b then None else said) ≡ None → AreStatuses (if b then nothing else effect)
unless-told true said effect each none = tt
unless-told false said effect each none = each none

pub refusals-told : (hub : HubView) (own : SenderView) (line : PreparedLine) (now : ℕ) → accepted_line hub own line now ≡ None → AreStatuses (line_effect hub own line now)
unfolding line_effect accepted_line
refusals-told hub own line now none =
    unless-told (is_over own.stage) _ _ (unless-told (length line.bytes == 0) _ _ (reading-told hub own line now (lines.reading line.bytes) refl)) none
