-- Effects of a line are the same, whatever the passwords, but for the digest that is waited for.
use Rattle.std.proofs.Common.{◌≡◌, ◌∙◌, sym, ap, ap₂, refl, ℕ, suc, Bool, true, false, not, ◌&&◌, ◌||◌, ◌==◌, ◌⊎◌, inl, inr, List, [], ◌∷◌, length, map, Option, Some, None, Result, Ok, Err, arith, take, ◌++◌, drop}
use Rattle.hub_laws.proofs.Words.{ConfiguredAccount, Change, Deny, Effect, Field, IsAddressed, Kind, LineFault, Listed, SenderView, PreparedLine, Reading, Reads-of, Request, Sender, HubView, Stage, accepted_effect}
use Rattle.hub_laws.proofs.Words.{account_with, act_denied, act_effect, admits, answer_to, bytes_eq, bytes_eq-Decides, chars, client_type, codes, denial, differs, digest_given, effect_by}
use Rattle.hub_laws.proofs.Words.{effect_of_reading, entrant, entry_grounds, false≢true, first_ground, hub_line, if◌then◌else◌, is_account, is_command, is_digest, is_operator, is_over, is_some}
use Rattle.hub_laws.proofs.Words.{is_utf8, line_effect, line_of, listed_user, login_denied, login_grounds, logs_in, nothing, operates, option_map, option_or, password_denied, refusal_of}
use Rattle.hub_laws.proofs.Words.{request-asks, request_at, request_denied, request_of, text_in, touches_account, unless_denied, update_denied, update_grounds, updates_user}
use Rattle.hub_laws.proofs.Words.{user_after, user_line}
use Rattle.adc_line.specs.Header.{header_at, head_at}
use Rattle.inf_fields.specs.declared.fault.InfFault.{InfFault}
use Rattle.login_state.specs.declared.fault.SupFault.{SupFault}
use Rattle.login_state.specs.SupportAnswers.{support_after}
use Rattle.operator_acts.specs.Acts.{act_at}
use Rattle.operator_acts.specs.declared.act.Act.{Act}
use Rattle.hub_rules.specs.Effects.{enters, greets}
use Rattle.hub_laws.proofs.Words.denials
use Rattle.hub_laws.proofs.Words.kinds
use Rattle.hub_laws.proofs.Words.lines
use Rattle.hub_laws.proofs.Words.requests
use Rattle.hub_laws.proofs.Words.senders
use Rattle.hub_laws.proofs.Words.stages
use Rattle.hub_laws.proofs.Words.updates
use Rattle.hub_laws.proofs.Checked.{is_barred}
use Rattle.hub_laws.specs.Passwords.{is_password, is_right, is_to_hub, without_password}

-- the digest that is waited for is veiled
abbrev pub veiled_change : Change → Change
veiled_change (Sender (senders.Waits entrant expected)) = Sender (senders.Waits entrant [])
veiled_change change = change

abbrev pub veiled_effect : Effect → Effect
veiled_effect effect = record effect { change = veiled_change effect.change }

-- the same hub with other accounts, a connection of which it expects another digest, a line with another digest
abbrev pub other_hub : HubView → List ConfiguredAccount → HubView
other_hub hub accounts = record hub { setup = record hub.setup { accounts = accounts } }

abbrev pub other_own : SenderView → List ℕ → SenderView
other_own own expected = record own { expected = expected }

abbrev pub other_line : PreparedLine → Option (List ℕ) → PreparedLine
other_line line password = record line { password = password }

abbrev pub AreAlike : List ConfiguredAccount → List ConfiguredAccount → Type 0
AreAlike accounts others = map without_password accounts ≡ map without_password others

-- ---- accounts

found-if : (b : Bool) (account : ConfiguredAccount) (x y : Option ConfiguredAccount) → option_map without_password x ≡ y
    → option_map without_password (if b then Some account else x) ≡ (if b then Some (without_password account) else y)
found-if b account x y is = grind arith

found-without : (key : List ℕ) (accounts : List ConfiguredAccount) → option_map without_password (account_with key accounts) ≡ account_with key (map without_password accounts)
unfolding account_with
found-without key [] = refl
found-without key (account ∷ accounts) =
    found-if (bytes_eq account.key key) account (account_with key accounts) (account_with key (map without_password accounts)) (found-without key accounts)

found-alike : (key : List ℕ) (accounts others : List ConfiguredAccount) → AreAlike accounts others
    → option_map without_password (account_with key accounts) ≡ option_map without_password (account_with key others)
found-alike key accounts others alike = found-without key accounts ∙ ap (account_with key) alike ∙ sym (found-without key others)

some-without : (x : Option ConfiguredAccount) → is_some x ≡ is_some (option_map without_password x)
some-without x = grind arith

operates-without : (x : Option ConfiguredAccount) → operates x ≡ operates (option_map without_password x)
operates-without x = grind arith

type-without : (x : Option ConfiguredAccount) → client_type x ≡ client_type (option_map without_password x)
type-without x = grind arith

-- ---- two lines that give passwords

-- a message HPAS names nobody
record IsPass (reading : Reading) : Type 0 where
  kind : reading.kind ≡ kinds.Hub
  command : reading.command ≡ codes "PAS"
  from : reading.from ≡ None

to-hub : (kind : Kind) → is_to_hub kind ≡ true → kind ≡ kinds.Hub
to-hub kind is = grind arith

names-nobody : (kind : Kind) (ws : List (List ℕ)) (from target : Option ℕ) (features : Option (List ℕ)) → kind ≡ kinds.Hub → IsAddressed kind ws from target features → from ≡ None
names-nobody kind ws from target features is addressed = grind arith

both-true : (a b : Bool) → (a && b) ≡ true → (a ≡ true) × (b ≡ true)
both-true a b is = grind arith

is-pass : (bytes : List ℕ) (r : Result Reading LineFault) → lines.reading bytes ≡ r → is_password r ≡ true → (reading : Reading) × (r ≡ Ok reading) × IsPass reading
is-pass bytes (Ok reading) read is =
    let parts = both-true (is_to_hub reading.kind) (bytes_eq reading.command (codes "PAS")) is in
    let reads = Reads-of bytes reading read in
    let hub : reading.kind ≡ kinds.Hub = to-hub reading.kind parts.0 in (
      reading,
      refl,
      record {
        kind = hub;
        command = (bytes_eq-Decides reading.command (codes "PAS")).0 parts.1;
        from = names-nobody reading.kind reads.addresses reading.from reading.target reading.features hub reads.addressed;
      },
    )
is-pass bytes (Err fault) read is = absurd (false≢true is)

nothing-read : is_password (lines.reading []) ≡ false
unfolding lines.reading is_utf8 chars header_at head_at
nothing-read = refl

more-than-none : (n : ℕ) → (suc n == 0) ≡ false
more-than-none n = grind arith

not-empty : (bytes : List ℕ) → is_password (lines.reading bytes) ≡ true → (length bytes == 0) ≡ false
not-empty [] is = absurd (false≢true (sym nothing-read ∙ is))
not-empty (b ∷ bytes) is = more-than-none (length bytes)

-- what the rules for every line look at
abbrev skeleton : Kind → List ℕ → Option ℕ → Reading
skeleton kind command from = record { text = []; kind = kind; command = command; from = from; target = None; features = None; params = [] }

-- a password is asked for, or nothing
pass-request : (stage : Stage) → (request_of stage kinds.Hub (codes "PAS") ≡ requests.Nothing)
    ⊎ ((request_of stage kinds.Hub (codes "PAS") ≡ requests.Password) × (stage ≡ stages.Verify))
unfolding request_at
pass-request stage = grind arith

-- what comes of a message that no rule for every line refuses
abbrev outcome : HubView → SenderView → PreparedLine → ℕ → Reading → Option Deny → Request → Effect
outcome hub own line now reading refusal request =
    unless_denied own (option_or refusal (request_denied hub own line now reading request)) (accepted_effect hub own line now reading request)

heard-pass : (hub : HubView) (own : SenderView) (line : PreparedLine) (now : ℕ) (reading : Reading) → IsPass reading
    → effect_of_reading hub own line now (Ok reading)
    ≡ outcome hub own line now reading (refusal_of own.stage own.sender.sid (skeleton kinds.Hub (codes "PAS") None)) (request_of own.stage kinds.Hub (codes "PAS"))
heard-pass hub own line now reading pass = grind arith

-- ---- the same of both hubs

module _ (hub : HubView) (accounts : List ConfiguredAccount) (own : SenderView) (expected : List ℕ) (now : ℕ) (alike : AreAlike hub.setup.accounts accounts) where
  account-alike : (key : List ℕ) → is_account hub key ≡ is_account (other_hub hub accounts) key
  account-alike key = grind (arith, some-without, found-alike)

  operator-alike : is_operator hub own ≡ is_operator (other_hub hub accounts) own
  operator-alike = grind (arith, operates-without, found-alike)

  -- ---- who enters

  line-alike : (user : Listed) → line_of hub user ≡ line_of (other_hub hub accounts) user
  unfolding user_line
  line-alike user = grind (arith, type-without, found-alike)

  lines-alike : (users : List Listed) → map (line_of hub) users ≡ map (line_of (other_hub hub accounts)) users
  lines-alike [] = refl
  lines-alike (user ∷ users) = ap₂ (λ (l : List ℕ) (ls : List (List ℕ)). l ∷ ls) (line-alike user) (lines-alike users)

  enters-alike : (user : Listed) (change : Change)
      → veiled_effect (enters hub own user change) ≡ veiled_effect (enters (other_hub hub accounts) (other_own own expected) user change)
  enters-alike user change = grind (arith, lines-alike, line-alike)

  -- ---- what an accepted line leads to

  greets-alike : (r : Result (List (List ℕ)) SupFault) → veiled_effect (greets hub own now r) ≡ veiled_effect (greets (other_hub hub accounts) (other_own own expected) now r)
  unfolding hub_line
  greets-alike r = grind arith

  admits-alike : (line : PreparedLine) (password : Option (List ℕ)) (user : Listed) (b : Bool)
      → veiled_effect (admits hub own line b user) ≡ veiled_effect (admits (other_hub hub accounts) (other_own own expected) (other_line line password) b user)
  admits-alike line password user true = refl
  admits-alike line password user false = enters-alike user (Sender (senders.EntersAs (entrant user)))

  login-alike : (line : PreparedLine) (password : Option (List ℕ)) (r : Result (List Field) InfFault)
      → veiled_effect (logs_in hub own line r) ≡ veiled_effect (logs_in (other_hub hub accounts) (other_own own expected) (other_line line password) r)
  login-alike line password r = grind (arith, admits-alike, account-alike)

  update-alike : (r : Result (List Field) InfFault) → updates_user own r ≡ updates_user (other_own own expected) r
  update-alike r = grind arith

  asked-alike : (act : Option Act) → answer_to hub own now act ≡ answer_to (other_hub hub accounts) (other_own own expected) now act
  asked-alike act = grind arith

  act-alike : (params : List (List ℕ)) → act_effect hub own now params ≡ act_effect (other_hub hub accounts) (other_own own expected) now params
  unfolding act_effect
  act-alike params = ap (λ answer. if not (is_command (text_in params)) then nothing else effect_by answer) (asked-alike (act_at (text_in params)))

  accepted-alike : (line : PreparedLine) (password : Option (List ℕ)) (reading : Reading) (request : Request)
      → veiled_effect (accepted_effect hub own line now reading request)
      ≡ veiled_effect (accepted_effect (other_hub hub accounts) (other_own own expected) (other_line line password) now reading request)
  unfolding accepted_effect
  accepted-alike line password reading requests.Greeting = greets-alike (support_after own.sender.features reading.params)
  accepted-alike line password reading requests.Login =
      login-alike line password (updates.reading reading.params)
  accepted-alike line password reading requests.Password = enters-alike (listed_user own.sender.sid own.fields) (Sender senders.Enters)
  accepted-alike line password reading requests.Update = ap veiled_effect (update-alike (updates.reading reading.params))
  accepted-alike line password reading requests.Act = ap veiled_effect (act-alike reading.params)
  accepted-alike line password reading _ = refl

  -- ---- which rule denies a line

  barred-alike : (key : List ℕ) → is_barred hub key ≡ is_barred (other_hub hub accounts) key
  barred-alike key = ap (λ b. hub.setup.plain.registered_only && not b) (account-alike key)

  login-denied-alike : (digest : Option (List ℕ)) (r : Result (List Field) InfFault)
      → login_denied hub own digest now r ≡ login_denied (other_hub hub accounts) (other_own own expected) digest now r
  unfolding login_grounds
  login-denied-alike digest (Ok u) =
      let grounds : List (Bool × Deny) = login_grounds hub own now digest u (user_after own u) in
      ap (λ b. first_ground (take 10 grounds ++ (b, denials.Registered) ∷ drop 11 grounds)) (barred-alike (user_after own u).key)
  login-denied-alike digest (Err fault) = refl

  touched-alike : (before after : List ℕ) → touches_account hub before after ≡ touches_account (other_hub hub accounts) before after
  touched-alike before after = ap₂ (λ a b. differs after before && (a || b)) (account-alike before) (account-alike after)

  update-denied-alike : (r : Result (List Field) InfFault) → update_denied hub own r ≡ update_denied (other_hub hub accounts) (other_own own expected) r
  unfolding update_grounds
  update-denied-alike r = grind (arith, touched-alike)

  act-denied-alike : (params : List (List ℕ)) → act_denied hub own now params ≡ act_denied (other_hub hub accounts) (other_own own expected) now params
  unfolding act_denied
  act-denied-alike params = grind (arith, operator-alike, asked-alike)

  -- a password is denied where it is not right
  password-alike : (params others : List (List ℕ)) → is_digest own.expected (digest_given params) ≡ is_digest expected (digest_given others)
      → password_denied hub own now params ≡ password_denied (other_hub hub accounts) (other_own own expected) now others
  unfolding entry_grounds
  password-alike params others right = ap (λ b. first_ground ((not b, denials.Password) ∷ entry_grounds hub now (listed_user own.sender.sid own.fields))) right

  request-denied-alike : (line : PreparedLine) (password : Option (List ℕ)) (reading : Reading) (request : Request)
      → (request ≡ requests.Password → is_digest own.expected (digest_given reading.params) ≡ is_digest expected (digest_given reading.params))
      → request_denied hub own line now reading request ≡ request_denied (other_hub hub accounts) (other_own own expected) (other_line line password) now reading request
  unfolding request_denied
  request-denied-alike line password reading request right = grind (arith, login-denied-alike, password-alike, update-denied-alike, act-denied-alike)

  -- ---- the same line in both hubs

  denial-alike : (deny : Deny) → denial own deny ≡ denial (other_own own expected) deny
  unfolding denial
  denial-alike deny = refl

  unless-alike : (refusal : Option Deny) (x y : Effect) → veiled_effect x ≡ veiled_effect y
      → veiled_effect (unless_denied own refusal x) ≡ veiled_effect (unless_denied (other_own own expected) refusal y)
  unless-alike refusal x y alike = grind (arith, denial-alike)

  heard-alike : (line : PreparedLine) (password : Option (List ℕ)) (r : Result Reading LineFault) → (own.stage ≡ stages.Verify → is_right own.expected r ≡ is_right expected r)
      → veiled_effect (effect_of_reading hub own line now r) ≡ veiled_effect (effect_of_reading (other_hub hub accounts) (other_own own expected) (other_line line password) now r)
  heard-alike line password r right = grind (arith, unless-alike, accepted-alike, request-denied-alike, request-asks, denial-alike)

  abbrev unless_over : Bool → Bool → Effect → Effect
  unless_over over empty effect = if over then nothing else if empty then nothing else effect

  over-alike : (over empty : Bool) (x y : Effect) → veiled_effect x ≡ veiled_effect y → veiled_effect (unless_over over empty x) ≡ veiled_effect (unless_over over empty y)
  over-alike over empty x y alike = grind arith

  pub same-line-alike : (line : PreparedLine) (password : Option (List ℕ))
      → (own.stage ≡ stages.Verify → is_right own.expected (lines.reading line.bytes) ≡ is_right expected (lines.reading line.bytes))
      → veiled_effect (line_effect hub own line now) ≡ veiled_effect (line_effect (other_hub hub accounts) (other_own own expected) (other_line line password) now)
  unfolding line_effect
  same-line-alike line password right = over-alike (is_over own.stage) (length line.bytes == 0) _ _ (heard-alike line password (lines.reading line.bytes) right)

  outcome-alike : (line another : PreparedLine) (reading others : Reading) (refusal : Option Deny) (request : Request)
      → (request ≡ requests.Nothing) ⊎ ((request ≡ requests.Password) × (own.stage ≡ stages.Verify))
      → (own.stage ≡ stages.Verify → is_digest own.expected (digest_given reading.params) ≡ is_digest expected (digest_given others.params))
      → veiled_effect (outcome hub own line now reading refusal request) ≡ veiled_effect (outcome (other_hub hub accounts) (other_own own expected) another now others refusal request)
  unfolding accepted_effect request_denied
  outcome-alike line another reading others refusal request (inl is) right =
      ap (λ (r : Request). veiled_effect (outcome hub own line now reading refusal r)) is
      ∙ unless-alike (option_or refusal None) nothing nothing refl
      ∙ ap (λ (r : Request). veiled_effect (outcome (other_hub hub accounts) (other_own own expected) another now others refusal r)) (sym is)
  outcome-alike line another reading others refusal request (inr asks) right =
      ap (λ (r : Request). veiled_effect (outcome hub own line now reading refusal r)) asks.0
      ∙ ap (λ d. veiled_effect (unless_denied own (option_or refusal d) (enters hub own (listed_user own.sender.sid own.fields) (Sender senders.Enters))))
      (password-alike reading.params others.params (right asks.1))
      ∙ unless-alike _ _ _ (enters-alike (listed_user own.sender.sid own.fields) (Sender senders.Enters))
      ∙ ap (λ (r : Request). veiled_effect (outcome (other_hub hub accounts) (other_own own expected) another now others refusal r)) (sym asks.0)

  heard-passwords : (line another : PreparedLine) (reading others : Reading) → IsPass reading → IsPass others
      → (own.stage ≡ stages.Verify → is_digest own.expected (digest_given reading.params) ≡ is_digest expected (digest_given others.params))
      → veiled_effect (effect_of_reading hub own line now (Ok reading)) ≡ veiled_effect (effect_of_reading (other_hub hub accounts) (other_own own expected) another now (Ok others))
  heard-passwords line another reading others first second right = grind (arith, heard-pass, outcome-alike, pass-request)

  pub passwords-alike : (line another : PreparedLine) → is_password (lines.reading line.bytes) ≡ true → is_password (lines.reading another.bytes) ≡ true
      → (own.stage ≡ stages.Verify → is_right own.expected (lines.reading line.bytes) ≡ is_right expected (lines.reading another.bytes))
      → veiled_effect (line_effect hub own line now) ≡ veiled_effect (line_effect (other_hub hub accounts) (other_own own expected) another now)
  unfolding line_effect
  passwords-alike line another first second right =
      let one = is-pass line.bytes (lines.reading line.bytes) refl first in
      let two = is-pass another.bytes (lines.reading another.bytes) refl second in
      ap₂ (λ b (r : Result Reading LineFault). veiled_effect (unless_over (is_over own.stage) b (effect_of_reading hub own line now r))) (not-empty line.bytes first) one.1
      ∙ over-alike (is_over own.stage) false _ _
      (heard-passwords line another one.0 two.0 one.2 two.2
      (λ waits. sym (ap (is_right own.expected) one.1) ∙ right waits ∙ ap (is_right expected) two.1))
      ∙ sym (ap₂ (λ b (r : Result Reading LineFault). veiled_effect (unless_over (is_over own.stage) b (effect_of_reading (other_hub hub accounts) (other_own own expected) another now r)))
      (not-empty another.bytes second) two.1)
