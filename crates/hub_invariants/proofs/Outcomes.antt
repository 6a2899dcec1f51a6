-- One view of what a line leads to: every line has one of these outcomes. Each law about lines is a walk over them.
use Rattle.std.specs.Option.{option_or}
use Rattle.std.proofs.Common.{◌≡◌, refl, ℕ, Bool, true, false, not, ◌==◌, List, [], ◌∷◌, length, Option, Some, None, is_some, Result, Ok, Err, arith}
use Rattle.std.specs.Prelude.{if◌then◌else◌, codes, cond}
use Rattle.std.specs.Result.{result_err, result_unwrap_or}
use Rattle.adc_line.specs.declared.fault.LineFault.{LineFault}
use Rattle.adc_line.specs.declared.header.Kind.{Kind}
use Rattle.adc_line.specs.Lines as lines
use Rattle.adc_line.specs.Lines.{Reading}
use Rattle.inf_fields.specs.Cleaning.{clean}
use Rattle.inf_fields.specs.Field.{Field}
use Rattle.inf_fields.specs.Updates as updates
use Rattle.inf_fields.specs.declared.fault.InfFault.{InfFault}
use Rattle.login_state.specs.declared.deny.Deny.{Deny}
use Rattle.login_state.specs.declared.deny.Deny.TheVariants as denials
use Rattle.login_state.specs.declared.fault.SupFault.{SupFault}
use Rattle.login_state.specs.declared.stage.Stage.{Stage}
use Rattle.login_state.specs.declared.stage.Stage.TheVariants as stages
use Rattle.login_state.specs.Denials.{denial_line, is_fatal}
use Rattle.login_state.specs.SupportAnswers.{support_after}
use Rattle.operator_acts.specs.Acts.{act_at}
use Rattle.operator_acts.specs.Bans.{ban_on, is_full}
use Rattle.operator_acts.specs.declared.ban.Ban.{Ban}
use Rattle.operator_acts.specs.declared.act.Act.{Act}
use Rattle.operator_acts.specs.declared.act.Act.TheVariants as commands
use Rattle.user_table.specs.Listed.{Listed}
use Rattle.hub_rules.specs.Configured.{Configured}
use Rattle.hub_rules.specs.Facts.{Facts, effect_of_line, own_of, sight_of}
use Rattle.hub_rules.specs.Prepared.{prepared_line}
use Rattle.hub_rules.specs.declared.effect.Banned.{Banned}
use Rattle.hub_rules.specs.declared.effect.Change.TheVariants.{Hub, Nothing, Sender}
use Rattle.hub_rules.specs.declared.effect.Effect.{Effect}
use Rattle.hub_rules.specs.declared.effect.HubChange.{HubChange}
use Rattle.hub_rules.specs.declared.effect.HubChange.TheVariants as shared
use Rattle.hub_rules.specs.declared.sender.SeatChange.TheVariants as seats
use Rattle.hub_rules.specs.declared.effect.SenderChange.TheVariants as senders
use Rattle.login_state.specs.declared.request.Request.{Request}
use Rattle.login_state.specs.declared.request.Request.TheVariants as requests
use Rattle.hub_rules.specs.Acts.{Done, act_denied, act_effect, answer_of, answer_to, banned_for, effect_for_all, effect_by, if_present, is_command, is_operator, removal, text_in, user_called}
use Rattle.hub_rules.specs.Denied.{denial_of, login_denied, password_denied, request_denied, sup_denied, update_denied}
use Rattle.hub_rules.specs.Effects as effects
use Rattle.hub_rules.specs.Effects.{tells_others, tells_sender, accepted_effect, admits, denial, enters, farewell, effect_of_reading, is_over, line_effect, logs_in, passes_on, unless_denied, update_effect, updates_user}
use Rattle.hub_rules.specs.Identities.{listed_user}
use Rattle.hub_rules.specs.Quiet.{nothing}
use Rattle.hub_rules.specs.Senders.{is_removal}
use Rattle.login_state.specs.Requests.{request_at}
use Rattle.hub_rules.specs.Requests.{refusal_of, request_of}
use Rattle.hub_invariants.specs.Afterwards.{is_removed}
use Rattle.hub_invariants.specs.Said.{accepted_line, kept_unless, unless_refused}
use Rattle.hub_rules.specs.Views.{SenderView, PreparedLine, HubView, is_account, user_after}
use Rattle.hub_rules.specs.Texts.{removal_line, topic_line}
use Rattle.hub_invariants.proofs.Claims.{some-none}

-- ---- what is asked at which stage

abbrev pub Asked : Stage → Request → Type 0
Asked stage requests.Greeting = stage ≡ stages.Protocol
Asked stage requests.Login = stage ≡ stages.Identify
Asked stage requests.Password = stage ≡ stages.Verify
Asked stage requests.Nothing = Unit {0}
Asked stage request = stage ≡ stages.Normal

abbrev AskedIn : Stage → Result Request Deny → Type 0
AskedIn stage (Ok request) = Asked stage request
AskedIn stage (Err deny) = Unit {0}

asked-at : (stage : Stage) (kind : Kind) (command : List ℕ) → AskedIn stage (request_at stage kind command)
unfolding request_at
asked-at stage kind command = grind arith

asked-for : (stage : Stage) (r : Result Request Deny) → AskedIn stage r → Asked stage (result_unwrap_or r requests.Nothing)
asked-for stage r is = grind arith

pub request-asks : (stage : Stage) (kind : Kind) (command : List ℕ) → Asked stage (request_of stage kind command)
request-asks stage kind command = asked-for stage (request_at stage kind command) (asked-at stage kind command)

-- ---- the outcomes

-- the request of what was said, where it was accepted
abbrev pub request_in : SenderView → Option Reading → Request
request_in own None = requests.Nothing
request_in own (Some reading) = request_of own.stage reading.kind reading.command

-- a change of which users are told nothing: it shuts nobody out, and sets neither a ban nor the topic
abbrev pub is_silent : HubChange → Bool
is_silent (shared.At sid change) = not (is_removal change)
is_silent (shared.Ban banned) = false
is_silent (shared.Topic text) = false
is_silent change = true

pub silent-keeps : (change : HubChange) (sid : ℕ) → is_silent change ≡ true → is_removed (Hub change) sid ≡ false
silent-keeps change sid is = grind arith

-- what an act does that is carried out, by what it changes
pub data Does (users : List Listed) (bans : List (List ℕ × Ban)) (operator : ℕ) : Act → List (List ℕ) → HubChange → Type 0 where
  kicks : (nick reason : List ℕ) (target : Listed) → user_called users nick ≡ Some target
      → Does users bans operator (commands.Kick nick reason) (removal_line target.sid operator None reason ∷ []) (shared.At target.sid seats.Gone)
  bans_user : {seconds : ℕ} (nick : List ℕ) (reason : List ℕ) (target : Listed) (banned : Banned) → user_called users nick ≡ Some target → banned.sid ≡ target.sid
      → is_full bans banned.cid ≡ false
      → Does users bans operator (commands.Ban nick seconds reason) (removal_line banned.sid operator (Some banned.ban.seconds) reason ∷ []) (shared.Ban banned)
  silent : {act : Act} (change : HubChange) → is_silent change ≡ true → Does users bans operator act [] change
  sets_topic : (text : List ℕ) → Does users bans operator (commands.Topic text) (topic_line text ∷ []) (shared.Topic text)

abbrev pub DoesIt : List Listed → List (List ℕ × Ban) → ℕ → Act → Result Done Deny → Type 0
DoesIt users bans operator act (Ok done) = Does users bans operator act done.others done.change
DoesIt users bans operator act (Err deny) = Unit {0}

if-present : (users : List Listed) (bans : List (List ℕ × Ban)) (operator : ℕ) (act : Act) (found : Option Listed) (command : Listed → Result Done Deny)
    → ((user : Listed) → found ≡ Some user → DoesIt users bans operator act (command user)) → DoesIt users bans operator act (if_present found command)
if-present users bans operator act found command each = grind arith

if-room : (users : List Listed) (bans : List (List ℕ × Ban)) (operator seconds : ℕ) (nick reason : List ℕ) (target : Listed) (banned : Banned) → user_called users nick ≡ Some target
    → banned.sid ≡ target.sid → (full : Bool) → is_full bans banned.cid ≡ full
    → DoesIt users bans operator (commands.Ban nick seconds reason) (if full then Err denials.BansFull else Ok (removal operator reason banned))
if-room users bans operator seconds nick reason target banned called same true is = tt
if-room users bans operator seconds nick reason target banned called same false is = bans_user nick reason target banned called same is

if-held : (users : List Listed) (bans : List (List ℕ × Ban)) (operator : ℕ) (cid : List ℕ) (is_held : Bool)
    → DoesIt users bans operator (commands.Unban cid) (if is_held then Ok (record { others = []; change = shared.Unban cid }) else Err denials.NoBan)
if-held users bans operator cid true = silent (shared.Unban cid) refl
if-held users bans operator cid false = tt

does : (users : List Listed) (bans : List (List ℕ × Ban)) (operator now : ℕ) (act : Act) → DoesIt users bans operator act (answer_of users bans operator now act)
does users bans operator now (commands.Kick nick reason) =
    if-present users bans operator (commands.Kick nick reason) (user_called users nick) _ (λ user called. kicks nick reason user called)
does users bans operator now (commands.Ban nick seconds reason) =
    if-present users bans operator (commands.Ban nick seconds reason) (user_called users nick) _ (λ user called.
    if-room users bans operator seconds nick reason user (banned_for seconds now user) called refl (is_full bans (banned_for seconds now user).cid) refl)
does users bans operator now (commands.Unban cid) = if-held users bans operator cid (is_some (ban_on bans cid))
does users bans operator now (commands.Topic text) = sets_topic text

-- an accepted login
pub record Logs (hub : HubView) (own : SenderView) (line : PreparedLine) (now : ℕ) (reading : Reading) (u : List Field) : Type 0 where
  pub at : own.stage ≡ stages.Identify
  pub asks : request_of own.stage reading.kind reading.command ≡ requests.Login
  pub words : updates.reading reading.params ≡ Ok u
  pub allowed : login_denied hub own line.owner now (Ok u) ≡ None

-- by what was said, and what that asks for
pub data Outcome (hub : HubView) (own : SenderView) (line : PreparedLine) (now : ℕ) : Option Reading → Request → Effect → Type 0 where
  quiet : Outcome hub own line now None requests.Nothing nothing
  denies : (deny : Deny) → Outcome hub own line now None requests.Nothing (tells_sender (denial_line deny ∷ []) Nothing)
  shuts_out : (deny : Deny) → Outcome hub own line now None requests.Nothing
      (tells_others (denial_line deny ∷ []) (farewell own.stage own.sender.sid) (Sender senders.Falls))
  greets : (reading : Reading) (features : List (List ℕ)) → own.stage ≡ stages.Protocol → support_after own.sender.features reading.params ≡ Ok features
      → Outcome hub own line now (Some reading) requests.Greeting (effects.greets hub own now (Ok features))
  waits : (reading : Reading) (u : List Field) → Logs hub own line now reading u → is_account hub (user_after own u).key ≡ true
      → Outcome hub own line now (Some reading) requests.Login (admits hub own line true (user_after own u))
  lets_in : (reading : Reading) (u : List Field) → Logs hub own line now reading u → is_account hub (user_after own u).key ≡ false
      → Outcome hub own line now (Some reading) requests.Login (admits hub own line false (user_after own u))
  proves : (reading : Reading) → own.stage ≡ stages.Verify → request_of own.stage reading.kind reading.command ≡ requests.Password
      → password_denied hub own now reading.params ≡ None
      → Outcome hub own line now (Some reading) requests.Password (enters hub own (listed_user own.sender.sid own.fields) (Sender senders.Enters))
  revises : (reading : Reading) (u : List Field) → own.stage ≡ stages.Normal → updates.reading reading.params ≡ Ok u → update_denied hub own (Ok u) ≡ None
      → Outcome hub own line now (Some reading) requests.Update (update_effect own (clean u own.sender.peer))
  learns : (reading : Reading) (features : List (List ℕ)) → own.stage ≡ stages.Normal → support_after own.sender.features reading.params ≡ Ok features
      → Outcome hub own line now (Some reading) requests.Support (effects.learns (Ok features))
  acts : {act : Act} (reading : Reading) (done : Done) → own.stage ≡ stages.Normal → is_operator hub own ≡ true → act_at (text_in reading.params) ≡ Some act
      → Does hub.users hub.bans own.sender.sid act done.others done.change
      → Outcome hub own line now (Some reading) requests.Act (effect_for_all done)
  chats : (reading : Reading) → own.stage ≡ stages.Normal → Outcome hub own line now (Some reading) requests.Act nothing
  searches : (reading : Reading) → own.stage ≡ stages.Normal → Outcome hub own line now (Some reading) requests.Search (passes_on hub reading (Sender (senders.Searches now)))
  passes : (reading : Reading) → own.stage ≡ stages.Normal → Outcome hub own line now (Some reading) requests.Message (passes_on hub reading Nothing)
  ignores : (reading : Reading) → Outcome hub own line now (Some reading) requests.Nothing nothing

-- ---- every line has one

pub later-none : (first later : Option Deny) → option_or first later ≡ None → later ≡ None
later-none first later none = grind arith

module _ (hub : HubView) (own : SenderView) (line : PreparedLine) (now : ℕ) where
  abbrev Has : Option Reading → Request → Effect → Type 0
  Has said request effect = Outcome hub own line now said request effect

  by-denial : (deny : Deny) (fatal : Bool)
      → Has None requests.Nothing (cond fatal (tells_others (denial_line deny ∷ []) (farewell own.stage own.sender.sid) (Sender senders.Falls)) (tells_sender (denial_line deny ∷ []) Nothing))
  by-denial deny true = shuts_out deny
  by-denial deny false = denies deny

  by-greeting : (reading : Reading) → own.stage ≡ stages.Protocol → (r : Result (List (List ℕ)) SupFault) → support_after own.sender.features reading.params ≡ r → sup_denied r ≡ None
      → Has (Some reading) requests.Greeting (effects.greets hub own now r)
  by-greeting reading at (Ok features) is none = greets reading features at is
  by-greeting reading at (Err fault) is none = absurd (some-none none)

  by-support : (reading : Reading) → own.stage ≡ stages.Normal → (r : Result (List (List ℕ)) SupFault) → support_after own.sender.features reading.params ≡ r → sup_denied r ≡ None
      → Has (Some reading) requests.Support (effects.learns r)
  by-support reading at (Ok features) is none = learns reading features at is
  by-support reading at (Err fault) is none = absurd (some-none none)

  by-account : (reading : Reading) (u : List Field) → Logs hub own line now reading u → (b : Bool) → is_account hub (user_after own u).key ≡ b
      → Has (Some reading) requests.Login (admits hub own line b (user_after own u))
  by-account reading u logs true is = waits reading u logs is
  by-account reading u logs false is = lets_in reading u logs is

  by-login : (reading : Reading) → own.stage ≡ stages.Identify → request_of own.stage reading.kind reading.command ≡ requests.Login → (r : Result (List Field) InfFault)
      → updates.reading reading.params ≡ r → login_denied hub own line.owner now r ≡ None → Has (Some reading) requests.Login (logs_in hub own line r)
  by-login reading at asks r words none = grind (arith, by-account, some-none)

  by-update : (reading : Reading) → own.stage ≡ stages.Normal → (r : Result (List Field) InfFault) → updates.reading reading.params ≡ r → update_denied hub own r ≡ None
      → Has (Some reading) requests.Update (updates_user own r)
  by-update reading at (Ok u) words none = revises reading u at words none
  by-update reading at (Err fault) words none = absurd (some-none none)

  by-answer : (reading : Reading) (act : Act) → own.stage ≡ stages.Normal → is_operator hub own ≡ true → act_at (text_in reading.params) ≡ Some act → (answer : Result Done Deny)
      → DoesIt hub.users hub.bans own.sender.sid act answer → result_err answer ≡ None → Has (Some reading) requests.Act (effect_by answer)
  by-answer reading act at operator asks (Ok done) it none = acts reading done at operator asks it
  by-answer reading act at operator asks (Err deny) it none = absurd (some-none none)

  by-command : (reading : Reading) → own.stage ≡ stages.Normal → is_operator hub own ≡ true → (act : Option Act) → act_at (text_in reading.params) ≡ act
      → result_err (answer_to hub own now act) ≡ None → Has (Some reading) requests.Act (effect_by (answer_to hub own now act))
  by-command reading at operator None asks none = absurd (some-none none)
  by-command reading at operator (Some act) asks none = by-answer reading act at operator asks _ (does hub.users hub.bans own.sender.sid now act) none

  by-operator : (reading : Reading) → own.stage ≡ stages.Normal → (command operator : Bool) → is_operator hub own ≡ operator
      → (if not command then None else if not operator then Some (denials.Access (codes "HMSG")) else result_err (answer_to hub own now (act_at (text_in reading.params)))) ≡ None
      → Has (Some reading) requests.Act (if not command then nothing else effect_by (answer_to hub own now (act_at (text_in reading.params))))
  by-operator reading at false operator is none = chats reading at
  by-operator reading at true false is none = absurd (some-none none)
  by-operator reading at true true is none = by-command reading at is (act_at (text_in reading.params)) refl none

  by-act : (reading : Reading) → own.stage ≡ stages.Normal → act_denied hub own now reading.params ≡ None → Has (Some reading) requests.Act (act_effect hub own now reading.params)
  unfolding act_denied act_effect
  by-act reading at none = by-operator reading at (is_command (text_in reading.params)) (is_operator hub own) refl none

  pub by-request : (reading : Reading) (request : Request) → Asked own.stage request → request_of own.stage reading.kind reading.command ≡ request
      → request_denied hub own line now reading request ≡ None → Has (Some reading) request (accepted_effect hub own line now reading request)
  unfolding accepted_effect request_denied
  by-request reading requests.Greeting at asks none = by-greeting reading at (support_after own.sender.features reading.params) refl none
  by-request reading requests.Login at asks none = by-login reading at asks (updates.reading reading.params) refl none
  by-request reading requests.Password at asks none = proves reading at asks none
  by-request reading requests.Update at asks none = by-update reading at (updates.reading reading.params) refl none
  by-request reading requests.Support at asks none = by-support reading at (support_after own.sender.features reading.params) refl none
  by-request reading requests.Act at asks none = by-act reading at none
  by-request reading requests.Search at asks none = searches reading at
  by-request reading requests.Message at asks none = passes reading at
  by-request reading requests.Nothing at asks none = ignores reading

  abbrev IsOutcome : Option Reading → Effect → Type 0
  IsOutcome said effect = Has said (request_in own said) effect

  by-refusal : (reading : Reading) (refusal : Option Deny) → (refusal ≡ None → request_denied hub own line now reading (request_in own (Some reading)) ≡ None)
      → IsOutcome (kept_unless refusal reading) (unless_denied own refusal (accepted_effect hub own line now reading (request_in own (Some reading))))
  unfolding denial
  by-refusal reading (Some deny) allowed = by-denial deny (is_fatal deny)
  by-refusal reading None allowed = by-request reading _ (request-asks own.stage reading.kind reading.command) refl (allowed refl)

  by-reading : (r : Result Reading LineFault) → IsOutcome (unless_refused hub own line now r) (effect_of_reading hub own line now r)
  unfolding denial
  by-reading (Ok reading) = by-refusal reading (denial_of hub own line now reading) (later-none (refusal_of own.stage own.sender.sid reading) _)
  by-reading (Err fault) = by-denial denials.Protocol (is_fatal denials.Protocol)

  unless-quiet : (b : Bool) (said : Option Reading) (effect : Effect) → IsOutcome said effect → IsOutcome (if b then None else said) (if b then nothing else effect)
  unless-quiet true said effect is = quiet
  unless-quiet false said effect is = is

  pub outcome : IsOutcome (accepted_line hub own line now) (line_effect hub own line now)
  unfolding line_effect accepted_line
  outcome = unless-quiet (is_over own.stage) _ _ (unless-quiet (length line.bytes == 0) _ _ (by-reading (lines.reading line.bytes)))

-- of a line of connection c
pub line-outcome : (setup : Configured) (hash : List ℕ → List ℕ) (f : Facts) (c : ℕ) (bytes : List ℕ) (now : ℕ)
    → Outcome (sight_of setup f) (own_of (f.about c)) (prepared_line setup hash (f.about c).sender.challenge bytes) now
    (accepted_line (sight_of setup f) (own_of (f.about c)) (prepared_line setup hash (f.about c).sender.challenge bytes) now)
    (request_in (own_of (f.about c)) (accepted_line (sight_of setup f) (own_of (f.about c)) (prepared_line setup hash (f.about c).sender.challenge bytes) now))
    (effect_of_line setup hash f c bytes now)
line-outcome setup hash f c bytes now = outcome (sight_of setup f) (own_of (f.about c)) (prepared_line setup hash (f.about c).sender.challenge bytes) now
