-- After every history, whoever is present under the nick of an account gave its password, and whoever waits is waited for with its digest.
use Rattle.std.proofs.Common.{◌≡◌, ◌∙◌, sym, ap, refl, subst, ℕ, Bool, true, ◌&&◌, ◌⊎◌, inl, inr, ◌==◌, List, [], ◌∷◌, ◌++◌, Option, Some, is_some, Ok, Err, unwrap_or, arith}
use Rattle.hub_laws.proofs.Words.{ConnState, ConfiguredAccount, Becomes, Call, Change, Configured, Deny, Effect, Entry, Facts, Field, Kind, Line, PreparedLine, Reading, Sender, Stage, accepted_line}
use Rattle.hub_laws.proofs.Words.{account_with, becomes, bytes_eq, bytes_eq-Decides, codes, cond, departure, effect_of_line, eqb-true, expected_after, facts, false≢true, fields_after}
use Rattle.hub_laws.proofs.Words.{if◌then◌else◌, is_broadcast, is_unnamed, key_in, own_of, password_digest, password_of, prepared_line, removed_by, request_at, request_of, result_unwrap_or}
use Rattle.hub_laws.proofs.Words.{sight_of, stage_after, stage_next, tidy_of, update_of}
use Rattle.hub_laws.proofs.Words.kinds
use Rattle.hub_laws.proofs.Words.lines
use Rattle.hub_laws.proofs.Words.requests
use Rattle.hub_laws.proofs.Words.senders
use Rattle.hub_laws.proofs.Words.stages
use Rattle.hub_laws.proofs.Words.updates
use Rattle.hub_laws.specs.Registered.{HasGiven, NicksAreProved, OnlyAccountsEnter}
use Rattle.hub_laws.proofs.Checked.{KeepsNick}
use Rattle.hub_laws.proofs.Entrances.{EntersUnasked, GivesPassword, IsAsked, IsChecked, IsHereStill, WaitsStill, checked-line, read-accepted}
use Rattle.hub_laws.proofs.PassedFields.{key-merged}

-- what is so of the user of a connection, by its stage, its fields, the digest that is waited for and the challenge
pub record IsVouched (setup : Configured) (hash : List ℕ → List ℕ) (h : List Entry) (c : ℕ) (stage : Stage) (fields : List Field) (expected challenge : List ℕ) : Type 0 where
  pub waits : stage ≡ stages.Verify → password_of hash challenge (account_with (key_in fields) setup.accounts) ≡ Some expected
  pub admitted : stage ≡ stages.Normal → setup.plain.registered_only ≡ true → is_some (account_with (key_in fields) setup.accounts) ≡ true
  pub proved : stage ≡ stages.Normal → (account : ConfiguredAccount) → account_with (key_in fields) setup.accounts ≡ Some account → HasGiven setup hash h c (hash (account.password ++ challenge))

abbrev pub VouchedBy : Configured → (List ℕ → List ℕ) → List Entry → ℕ → ConnState → Type 0
VouchedBy setup hash h c a = IsVouched setup hash h c a.stage a.fields a.expected a.sender.challenge

-- the same after a change of its own
abbrev VouchedAfter : Configured → (List ℕ → List ℕ) → List Entry → ℕ → Change → ConnState → Type 0
VouchedAfter setup hash h c change a =
    IsVouched setup hash h c (stage_after change a.stage) (fields_after change a.fields) (expected_after change a.expected) a.sender.challenge

-- ---- the history grows

given-still : (setup : Configured) (hash : List ℕ → List ℕ) (h : List Entry) (e : Entry) (c : ℕ) (digest : List ℕ) → HasGiven setup hash h c digest → HasGiven setup hash (e ∷ h) c digest
given-still setup hash h e c digest has = record {
  later = e ∷ has.later;
  entry = has.entry;
  earlier = has.earlier;
  stands = ap (λ xs. e ∷ xs) has.stands;
  waits = has.waits;
  bytes = has.bytes;
  now = has.now;
  call = has.call;
  line = has.line;
  reading = has.reading;
  kind = has.kind;
  command = has.command;
  spells = has.spells;
}

vouched-still : (setup : Configured) (hash : List ℕ → List ℕ) (h : List Entry) (e : Entry) (c : ℕ) (stage : Stage) (fields : List Field) (expected challenge : List ℕ)
    → IsVouched setup hash h c stage fields expected challenge → IsVouched setup hash (e ∷ h) c stage fields expected challenge
vouched-still setup hash h e c stage fields expected challenge is = grind (arith, given-still)

vouched-away : (setup : Configured) (hash : List ℕ → List ℕ) (h : List Entry) (c : ℕ) (stage : Stage) (fields : List Field) (expected challenge : List ℕ)
    → (stage ≡ stages.Verify → ⊥) → (stage ≡ stages.Normal → ⊥) → IsVouched setup hash h c stage fields expected challenge
vouched-away setup hash h c stage fields expected challenge not_asked not_here = grind arith

vouched-gone : (setup : Configured) (hash : List ℕ → List ℕ) (h : List Entry) (c : ℕ) (fields : List Field) (expected challenge : List ℕ)
    → IsVouched setup hash h c stages.Gone fields expected challenge
vouched-gone setup hash h c fields expected challenge = vouched-away setup hash h c stages.Gone fields expected challenge (λ is. cc is) (λ is. cc is)

vouched-joined : (setup : Configured) (hash : List ℕ → List ℕ) (h : List Entry) (c : ℕ) (fields : List Field) (expected challenge : List ℕ)
    → IsVouched setup hash h c stages.Protocol fields expected challenge
vouched-joined setup hash h c fields expected challenge = vouched-away setup hash h c stages.Protocol fields expected challenge (λ is. cc is) (λ is. cc is)

-- ---- the line by which a user logs in, or gives its password

password-if : (b is_status : Bool) (deny : Deny)
    → result_unwrap_or (if b then Ok requests.Password else (if is_status then Ok requests.Nothing else Err deny)) requests.Nothing ≡ requests.Password → b ≡ true
password-if b is_status deny is = grind arith

pub is-inf : (kind : Kind) (command : List ℕ) → request_of stages.Identify kind command ≡ requests.Login → (is_broadcast kind && bytes_eq command (codes "INF")) ≡ true
unfolding request_at
is-inf kind command is = grind arith

is-pas : (kind : Kind) (command : List ℕ) → request_of stages.Verify kind command ≡ requests.Password → (kind ≡ kinds.Hub) × (command ≡ codes "PAS")
unfolding request_at
is-pas kind command is = grind (arith, bytes_eq-Decides, password-if)

pub prepared-bytes : (setup : Configured) (hash : List ℕ → List ℕ) (challenge bytes : List ℕ) → (prepared_line setup hash challenge bytes).bytes ≡ bytes
unfolding prepared_line
prepared-bytes setup hash challenge bytes = refl

prepared-password : (setup : Configured) (hash : List ℕ → List ℕ) (challenge bytes : List ℕ)
    → (prepared_line setup hash challenge bytes).password ≡ password_digest setup hash challenge (update_of (lines.reading bytes))
unfolding prepared_line
prepared-password setup hash challenge bytes = refl

-- what was prepared of a login is the digest of the password of the account that its nick names
login-password : (setup : Configured) (hash : List ℕ → List ℕ) (challenge bytes : List ℕ) (reading : Reading) (u : List Field) → lines.reading bytes ≡ Ok reading
    → request_of stages.Identify reading.kind reading.command ≡ requests.Login → updates.reading reading.params ≡ Ok u
    → (prepared_line setup hash challenge bytes).password ≡ password_of hash challenge (account_with (key_in u) setup.accounts)
login-password setup hash challenge bytes reading u is asks words = grind (arith, prepared-password, is-inf)

found-password : (hash : List ℕ → List ℕ) (challenge : List ℕ) (account : Option ConfiguredAccount) → is_some account ≡ true
    → password_of hash challenge account ≡ Some (unwrap_or (password_of hash challenge account) [])
found-password hash challenge account is = grind arith

-- ---- one line of the connection itself

abbrev accounts_of : Configured → List Field → Option ConfiguredAccount
accounts_of setup fields = account_with (key_in fields) setup.accounts

module _ (setup : Configured) (hash : List ℕ → List ℕ) where
  asked-waits : (f : Facts) (c : ℕ) (bytes : List ℕ) (now : ℕ) (said : Option Reading) (effect : Effect)
      → ((reading : Reading) → said ≡ Some reading → lines.reading bytes ≡ Ok reading) → ((f.about c).stage ≡ stages.Identify → (f.about c).fields ≡ [])
      → IsAsked (sight_of setup f) (own_of (f.about c)) (prepared_line setup hash (f.about c).sender.challenge bytes) now said effect
      → password_of hash (f.about c).sender.challenge (accounts_of setup (fields_after effect.change (f.about c).fields)) ≡ Some (expected_after effect.change (f.about c).expected)
  asked-waits f c bytes now said effect reads unnamed asked = grind (arith, key-merged, login-password, found-password)

  gives-proof : (h : List Entry) (e : Entry) (c : ℕ) (bytes : List ℕ) (now : ℕ) (said : Option Reading) (fields : List Field) (account : ConfiguredAccount) → e.call ≡ Line c bytes now
      → ((reading : Reading) → said ≡ Some reading → lines.reading bytes ≡ Ok reading)
      → GivesPassword (sight_of setup (facts setup hash h)) (own_of ((facts setup hash h).about c)) now said fields
      → password_of hash ((facts setup hash h).about c).sender.challenge (accounts_of setup ((facts setup hash h).about c).fields) ≡ Some ((facts setup hash h).about c).expected
      → accounts_of setup fields ≡ Some account → HasGiven setup hash (e ∷ h) c (hash (account.password ++ ((facts setup hash h).about c).sender.challenge))
  gives-proof h e c bytes now said fields account call reads gives waits has =
      let a : ConnState = (facts setup hash h).about c in
      let digest : Some (hash (account.password ++ a.sender.challenge)) ≡ Some a.expected =
      ap (password_of hash a.sender.challenge) (sym (ap (accounts_of setup) (sym gives.stays) ∙ has)) ∙ waits in
      let pas = is-pas gives.reading.kind gives.reading.command
      (subst (λ stage. request_of stage gives.reading.kind gives.reading.command ≡ requests.Password) gives.at gives.asks) in
      record {
        later = [];
        entry = e;
        earlier = h;
        stands = refl;
        waits = gives.at;
        bytes = bytes;
        now = now;
        call = call;
        line = gives.reading;
        reading = reads gives.reading gives.is_said;
        kind = pas.0;
        command = pas.1;
        spells = gives.spells ∙ sym digest;
      }

  waits-after : (f : Facts) (c : ℕ) (bytes : List ℕ) (now : ℕ) (said : Option Reading) (effect : Effect)
      → ((reading : Reading) → said ≡ Some reading → lines.reading bytes ≡ Ok reading) → ((f.about c).stage ≡ stages.Identify → (f.about c).fields ≡ [])
      → ((f.about c).stage ≡ stages.Verify → password_of hash (f.about c).sender.challenge (accounts_of setup (f.about c).fields) ≡ Some (f.about c).expected)
      → WaitsStill (own_of (f.about c)) effect ⊎ IsAsked (sight_of setup f) (own_of (f.about c)) (prepared_line setup hash (f.about c).sender.challenge bytes) now said effect
      → password_of hash (f.about c).sender.challenge (accounts_of setup (fields_after effect.change (f.about c).fields)) ≡ Some (expected_after effect.change (f.about c).expected)
  waits-after f c bytes now said effect reads unnamed waits (inl still) =
      ap (λ fs. password_of hash (f.about c).sender.challenge (accounts_of setup fs)) still.fields ∙ waits still.at ∙ ap Some (sym still.expected)
  waits-after f c bytes now said effect reads unnamed waits (inr asked) = asked-waits f c bytes now said effect reads unnamed asked

abbrev Enters : Configured → (List ℕ → List ℕ) → Facts → ℕ → ℕ → Option Reading → Effect → Type 0
Enters setup hash f c now said effect =
    IsHereStill (sight_of setup f) (own_of (f.about c)) effect
    ⊎ (EntersUnasked (sight_of setup f) (own_of (f.about c)) now said effect
    ⊎ GivesPassword (sight_of setup f) (own_of (f.about c)) now said (fields_after effect.change (f.about c).fields))

module _ (setup : Configured) (hash : List ℕ → List ℕ) where
  admitted-after : (h : List Entry) (c now : ℕ) (said : Option Reading) (effect : Effect) → VouchedBy setup hash h c ((facts setup hash h).about c)
      → Enters setup hash (facts setup hash h) c now said effect → setup.plain.registered_only ≡ true
      → is_some (accounts_of setup (fields_after effect.change ((facts setup hash h).about c).fields)) ≡ true
  admitted-after h c now said effect vouched enters only = grind arith

  keeps-proved : (h : List Entry) (e : Entry) (c : ℕ) (account : ConfiguredAccount) (afterwards : List ℕ) → VouchedBy setup hash h c ((facts setup hash h).about c)
      → ((facts setup hash h).about c).stage ≡ stages.Normal → KeepsNick (sight_of setup (facts setup hash h)) (key_in ((facts setup hash h).about c).fields) afterwards
      → account_with afterwards setup.accounts ≡ Some account → HasGiven setup hash (e ∷ h) c (hash (account.password ++ ((facts setup hash h).about c).sender.challenge))
  keeps-proved h e c account afterwards vouched at keeps has = grind (arith, given-still)

  proved-after : (h : List Entry) (e : Entry) (c : ℕ) (bytes : List ℕ) (now : ℕ) (said : Option Reading) (effect : Effect) → e.call ≡ Line c bytes now
      → ((reading : Reading) → said ≡ Some reading → lines.reading bytes ≡ Ok reading) → VouchedBy setup hash h c ((facts setup hash h).about c)
      → Enters setup hash (facts setup hash h) c now said effect → (account : ConfiguredAccount)
      → accounts_of setup (fields_after effect.change ((facts setup hash h).about c).fields) ≡ Some account
      → HasGiven setup hash (e ∷ h) c (hash (account.password ++ ((facts setup hash h).about c).sender.challenge))
  proved-after h e c bytes now said effect call reads vouched (inl here) account has = keeps-proved h e c account _ vouched here.at here.nick has
  proved-after h e c bytes now said effect call reads vouched (inr (inl unasked)) account has = absurd (false≢true (sym unasked.account ∙ ap is_some has))
  proved-after h e c bytes now said effect call reads vouched (inr (inr gives)) account has =
      gives-proof setup hash h e c bytes now said _ account call reads gives (vouched.waits gives.at) has

  change-vouched : (h : List Entry) (e : Entry) (c : ℕ) (bytes : List ℕ) (now : ℕ) (said : Option Reading) (effect : Effect) → e.call ≡ Line c bytes now
      → ((reading : Reading) → said ≡ Some reading → lines.reading bytes ≡ Ok reading)
      → IsChecked (sight_of setup (facts setup hash h)) (own_of ((facts setup hash h).about c)) (prepared_line setup hash ((facts setup hash h).about c).sender.challenge bytes) now said effect
      → VouchedBy setup hash h c ((facts setup hash h).about c) → VouchedAfter setup hash (e ∷ h) c effect.change ((facts setup hash h).about c)
  change-vouched h e c bytes now said effect call reads checked vouched = record {
    waits = λ at. waits-after setup hash (facts setup hash h) c bytes now said effect reads
        (λ is. (tidy_of setup hash h c).unnamed (ap is_unnamed is)) vouched.waits (checked.waits at);
    admitted = λ at. admitted-after h c now said effect vouched (checked.enters at);
    proved = λ at. proved-after h e c bytes now said effect call reads vouched (checked.enters at);
  }

  -- ---- one call

  vouched-next : (h : List Entry) (e : Entry) (c : ℕ) (removed same : Bool) (change : Change) (a : ConnState) → VouchedBy setup hash h c a
      → (same ≡ true → VouchedAfter setup hash (e ∷ h) c change a)
      → IsVouched setup hash (e ∷ h) c (stage_next removed same change a.stage) (cond same (fields_after change a.fields) a.fields)
      (cond same (expected_after change a.expected) a.expected) a.sender.challenge
  vouched-next h e c removed same change a vouched own = grind (arith, vouched-gone, vouched-still)

  line-vouched : (h : List Entry) (e : Entry) (c : ℕ) (bytes : List ℕ) (now : ℕ) → e.call ≡ Line c bytes now → VouchedBy setup hash h c ((facts setup hash h).about c)
      → VouchedAfter setup hash (e ∷ h) c (effect_of_line setup hash (facts setup hash h) c bytes now).change ((facts setup hash h).about c)
  line-vouched h e c bytes now call vouched =
      let f : Facts = facts setup hash h in
      let line : PreparedLine = prepared_line setup hash (f.about c).sender.challenge bytes in
      change-vouched h e c bytes now (accepted_line (sight_of setup f) (own_of (f.about c)) line now) (effect_of_line setup hash f c bytes now) call
      (λ reading said. ap lines.reading (sym (prepared-bytes setup hash (f.about c).sender.challenge bytes)) ∙ read-accepted (sight_of setup f) (own_of (f.about c)) line now reading said)
      (checked-line (sight_of setup f) (own_of (f.about c)) line now) vouched

module _ (setup : Configured) (hash : List ℕ → List ℕ) (h : List Entry) (e : Entry) (d : ℕ) where
  abbrev f : Facts
  f = facts setup hash h

  vouched-after : {call : Call} {a : ConnState} → Becomes setup hash f e.caller d call a → e.call ≡ call → VouchedBy setup hash h d (f.about d) → VouchedBy setup hash (e ∷ h) d a
  vouched-after (Becomes.joins peer challenge now place at) is vouched = vouched-joined setup hash (e ∷ h) d [] [] challenge
  vouched-after (Becomes.says c bytes now) is vouched =
      let effect : Effect = effect_of_line setup hash f c bytes now in
      vouched-next setup hash h e d (removed_by effect (f.about d)) (d == c) effect.change (f.about d) vouched
      (λ same. subst (λ x. VouchedBy setup hash h x (f.about x)
      → IsVouched setup hash (e ∷ h) x (stage_after effect.change (f.about x).stage) (fields_after effect.change (f.about x).fields)
      (expected_after effect.change (f.about x).expected) (f.about x).sender.challenge) (sym (eqb-true d c same)) (line-vouched setup hash h e c bytes now is) vouched)
  vouched-after (Becomes.quits c) is vouched =
      vouched-next setup hash h e d (removed_by (departure (f.about c).stage (f.about c).sender.sid) (f.about d)) (d == c) (Sender senders.Falls) (f.about d) vouched
      (λ same. vouched-gone setup hash (e ∷ h) d _ _ (f.about d).sender.challenge)
  vouched-after _ is vouched = vouched-still setup hash h e d (f.about d).stage (f.about d).fields (f.about d).expected (f.about d).sender.challenge vouched

-- ---- every history

pub vouched_of : (setup : Configured) (hash : List ℕ → List ℕ) (h : List Entry) (d : ℕ) → VouchedBy setup hash h d ((facts setup hash h).about d)
unfolding facts
vouched_of setup hash [] d = vouched-gone setup hash [] d [] [] []
vouched_of setup hash (e ∷ h) d = vouched-after setup hash h e d (becomes setup hash (facts setup hash h) e.caller d e.call) refl (vouched_of setup hash h d)

pub nicks_are_proved : NicksAreProved
nicks_are_proved setup hash h c account at has = (vouched_of setup hash h c).proved at account has

pub only_accounts_enter : OnlyAccountsEnter
only_accounts_enter setup hash h c only at = (vouched_of setup hash h c).admitted at only
