-- No ground denies a login, or a password, that meets every check.
use Rattle.std.proofs.Common.{◌≡◌, ◌∙◌, sym, ap, ap₂, refl, subst, ℕ, Bool, true, false, not, ◌&&◌, ◌||◌, ◌==◌, eqb, List, [], ◌∷◌, ◌++◌, length, map, Option, Some, None, Ok, is_some, unwrap_or, arith}
use Rattle.std.specs.Prelude.{codes, if◌then◌else◌}
use Rattle.std.specs.Str.{chars}
use Rattle.adc_base32.specs.Spelled.{spelled_bytes}
use Rattle.adc_ids.specs.Nicks.{is_nick}
use Rattle.adc_ids.proofs.Points.{is_nick-Decides}
use Rattle.adc_line.proofs.ReadsLemmas.{reading-of}
use Rattle.adc_line.specs.Escapes.{unescaped_text}
use Rattle.inf_fields.specs.FieldNames.{id_name, private_id_name}
use Rattle.operator_acts.specs.declared.left.Left.{Left}
use Rattle.hub_rules.specs.Identities.{nick_in}
use Rattle.hub_rules.proofs.Merges.{id-clean}
use Rattle.hub_laws.proofs.Words.{ConnState, AllFalse, Configured, Deny, Effect, Entry, Facts, Field, IsAddressed, Kind, Line, Listed, SenderView, PreparedLine, Reading, Request, HubView, Stage}
use Rattle.hub_laws.proofs.Words.{about_after, accepted_effect, admits, after, bytes_eq, bytes_eq-Decides, cid_in, clean, denial_of, digest_given, effect_of_line}
use Rattle.hub_laws.proofs.Words.{ban_ground, entry_grounds, eq-eqb, facts, first_ground, given-after, happens, has, has_cid, has_key, is_account, is_broadcast, is_digest, is_empty}
use Rattle.hub_laws.proofs.Words.{is_here, is_present, is_unnamed, key_in, left_of_bans, line_effect, list_any, listed_user, login_denied, login_grounds, meaning, merged_fields, merged_with}
use Rattle.hub_laws.proofs.Words.{names_another, nick_name, or-true, own_of, password_denied, password_grounds, password_of, prepared_line, present_are_users, request_at, request_denied}
use Rattle.hub_laws.proofs.Words.{sight_of, stage_after, tidy_of, update_of, user_after, user_of, value_or_empty}
use Rattle.hub_laws.proofs.Words.{is_over, logs_in, option_map}
use Rattle.hub_rules.specs.Prepared.{owner_digest}
use Rattle.hub_laws.proofs.Words.kinds
use Rattle.hub_laws.proofs.Words.lefts
use Rattle.hub_laws.proofs.Words.lines
use Rattle.hub_laws.proofs.Words.requests
use Rattle.hub_laws.proofs.Words.stages
use Rattle.hub_laws.specs.Logins.{IsFree, LoginsAreAccepted, LogsIn, PasswordsAreAccepted}
use Rattle.hub_laws.proofs.FreeNames.{listed-cid, listed-key}
use Rattle.hub_laws.proofs.Messages.{some-read}
use Rattle.hub_laws.proofs.Owners.{owner-login, prepared-owner}
use Rattle.hub_laws.proofs.PassedFields.{key-merged}
use Rattle.hub_laws.proofs.AccountPasswords.{prepared-bytes, vouched_of}

-- ---- grounds of which none holds

all-pass : (grounds : List (Bool × Deny)) → AllFalse grounds → first_ground grounds ≡ None
all-pass [] all = refl
all-pass ((test, deny) ∷ grounds) all = ap (λ b. first_ground ((b, deny) ∷ grounds)) all.0 ∙ all-pass grounds all.1

not-so : (b : Bool) → b ≡ true → not b ≡ false
not-so b is = grind arith

free-left : (l : Left) → l ≡ lefts.Free → (ban_ground l).0 ≡ false
free-left l is = ap (λ (k : Left). (ban_ground k).0) is

-- nobody is so
none-here : (about : ℕ → ConnState) (test : Listed → Bool) (cs : List ℕ) → ((d : ℕ) → has d cs ≡ true → test (user_of about d) ≡ false) → list_any test (map (user_of about) cs) ≡ false
none-here about test [] none = refl
none-here about test (x ∷ cs) none =
    ap₂ ◌||◌ (none x (ap (λ b. b || has x cs) (eq-eqb x x refl))) (none-here about test cs (λ d there. none d (ap (λ b. eqb x d || b) there ∙ or-true (eqb x d))))

differs : (other word : List ℕ) (b : Bool) → bytes_eq other word ≡ b → (other ≡ word → ⊥) → b ≡ false
differs other word b is apart = grind (arith, bytes_eq-Decides)

key-apart : (about : ℕ → ConnState) (key : List ℕ) (d : ℕ) → (key_in (about d).fields ≡ key → ⊥) → has_key key (user_of about d) ≡ false
unfolding listed_user
key-apart about key d apart = differs _ _ _ refl apart

cid-apart : (about : ℕ → ConnState) (cid : List ℕ) (d : ℕ) → (cid_in (about d).fields ≡ cid → ⊥) → has_cid cid (user_of about d) ≡ false
unfolding listed_user
cid-apart about cid d apart = differs _ _ _ refl apart

unclaimed : (setup : Configured) (hash : List ℕ → List ℕ) (h : List Entry) (key cid : List ℕ) → IsFree setup hash h key cid
    → (is_here (has_key key) (sight_of setup (facts setup hash h)) ≡ false) × (is_here (has_cid cid) (sight_of setup (facts setup hash h)) ≡ false)
unclaimed setup hash h key cid free =
    let f : Facts = facts setup hash h in (
      none-here f.about (has_key key) f.present (λ d there. key-apart f.about key d (free.no_nick d ((present_are_users setup hash h d).0 there))),
      none-here f.about (has_cid cid) f.present (λ d there. cid-apart f.about cid d (free.no_cid d ((present_are_users setup hash h d).0 there))),
    )

-- ---- what a login says

spelled-some : (word bytes : List ℕ) → spelled_bytes 24 word ≡ Some bytes → is_empty word ≡ false
unfolding spelled_bytes
spelled-some [] bytes is = let no : None ≡ Some bytes = is in cc no
spelled-some (b ∷ word) bytes is = refl

nick-some : (word : List ℕ) → is_nick (chars (meaning word)) ≡ true → is_empty word ≡ false
unfolding is_nick unescaped_text chars
nick-some [] is = sym is
nick-some (b ∷ word) is = refl

same-digest : (cid : List ℕ) (digest : Option (List ℕ)) → digest ≡ Some cid → not (is_digest cid digest) ≡ false
same-digest cid digest is = ap (λ d. not (is_digest cid d)) is ∙ ap not ((bytes_eq-Decides cid cid).1 refl)

merged-none : merged_fields [] ≡ []
unfolding merged_fields
merged-none = refl

-- where nothing is known of a user yet, its CID is that of its first INF
cid-merged : (fields u : List Field) (peer cid : List ℕ) → fields ≡ [] → spelled_bytes 24 (value_or_empty id_name u) ≡ Some cid → cid_in (merged_with fields (clean u peer)) ≡ cid
cid-merged fields u peer cid none shows =
    ap (λ fs. cid_in (merged_with fs (clean u peer))) none
    ∙ ap (λ (word : List ℕ). unwrap_or (spelled_bytes 24 word) []) (given-after id_name [] [] (clean u peer) (sym merged-none) ∙ ap (λ o. unwrap_or o []) (id-clean u peer))
    ∙ ap (λ o. unwrap_or o []) shows

registered : (only account : Bool) → (only ≡ true → account ≡ true) → (only && not account) ≡ false
registered only account is = grind arith

broadcast-asks : (kind : Kind) (command : List ℕ) → kind ≡ kinds.Broadcast → command ≡ codes "INF" → request_at stages.Identify kind command ≡ Ok requests.Login
unfolding request_at
broadcast-asks kind command is-kind is-command = ap₂ (request_at stages.Identify) is-kind is-command

hub-asks : (kind : Kind) (command : List ℕ) → kind ≡ kinds.Hub → command ≡ codes "PAS" → request_at stages.Verify kind command ≡ Ok requests.Password
unfolding request_at
hub-asks kind command is-kind is-command = ap₂ (request_at stages.Verify) is-kind is-command

is-inf : (kind : Kind) (command : List ℕ) → kind ≡ kinds.Broadcast → command ≡ codes "INF" → (is_broadcast kind && bytes_eq command (codes "INF")) ≡ true
is-inf kind command is-kind is-command = ap₂ (λ k (w : List ℕ). is_broadcast k && bytes_eq w (codes "INF")) is-kind is-command

-- ---- a line that no rule denies

own-named : (sid : ℕ) (from : Option ℕ) → from ≡ Some sid → names_another sid from ≡ false
own-named sid from is = ap (names_another sid) is ∙ ap not (eq-eqb sid sid refl)

denied-none : (hub : HubView) (own : SenderView) (prepared : PreparedLine) (now : ℕ) (line : Reading) (stage : Stage) (request : Request) → own.stage ≡ stage → names_another own.sender.sid line.from ≡ false
    → request_at stage line.kind line.command ≡ Ok request → request_denied hub own prepared now line request ≡ None → denial_of hub own prepared now line ≡ None
denied-none hub own prepared now line stage request at from asks none = grind arith

heard : (hub : HubView) (own : SenderView) (prepared : PreparedLine) (now : ℕ) (line : Reading) (stage : Stage) (request : Request) → own.stage ≡ stage → is_over stage ≡ false
    → (length prepared.bytes == 0) ≡ false → lines.reading prepared.bytes ≡ Ok line → request_at stage line.kind line.command ≡ Ok request
    → denial_of hub own prepared now line ≡ None → line_effect hub own prepared now ≡ accepted_effect hub own prepared now line request
unfolding line_effect
heard hub own prepared now line stage request at still some reads asks none = grind arith

-- ---- a login

module _ {setup : Configured} {hash : List ℕ → List ℕ} {h : List Entry} {e : Entry} {c : ℕ} {fields : List Field} (login : LogsIn setup hash h e c fields) where
  abbrev f : Facts
  f = facts setup hash h

  abbrev hub : HubView
  hub = sight_of setup f

  abbrev own : SenderView
  own = own_of (f.about c)

  abbrev prepared : PreparedLine
  prepared = prepared_line setup hash (f.about c).sender.challenge login.bytes

  reads : lines.reading login.bytes ≡ Ok login.line
  reads = reading-of login.bytes login.line login.grammar

  unnamed : own.fields ≡ []
  unnamed = (tidy_of setup hash h c).unnamed (ap is_unnamed login.may)

  digest : prepared.owner ≡ Some (hash login.pid)
  digest =
      prepared-owner setup hash (f.about c).sender.challenge login.bytes ∙ ap (λ r. owner_digest hash (update_of r)) reads
      ∙ owner-login hash login.line fields (is-inf login.line.kind login.line.command login.kind login.command) login.words ∙ ap (option_map hash) login.owns

  key-is : (user_after own fields).key ≡ key_in fields
  key-is = listed-key own.sender.sid (merged_with own.fields (clean fields own.sender.peer)) ∙ key-merged own.fields fields own.sender.peer unnamed

  cid-is : (user_after own fields).cid ≡ hash login.pid
  cid-is = listed-cid own.sender.sid (merged_with own.fields (clean fields own.sender.peer)) ∙ cid-merged own.fields fields own.sender.peer (hash login.pid) unnamed login.shows

  allowed : login_denied hub own prepared.owner login.now (Ok fields) ≡ None
  unfolding login_grounds
  allowed =
      let user : Listed = user_after own fields in
      let nick : is_nick (chars (nick_in fields)) ≡ true = (is_nick-Decides (chars (nick_in fields))).1 login.nick in
      let left = free-left (left_of_bans hub.bans user.cid login.now) (ap (λ (cid : List ℕ). left_of_bans hub.bans cid login.now) cid-is ∙ login.unbanned) in
      let free = unclaimed setup hash h user.key user.cid (subst (λ (key : List ℕ). IsFree setup hash h key user.cid) (sym key-is)
      (subst (IsFree setup hash h (key_in fields)) (sym cid-is) login.free)) in
      all-pass (login_grounds hub own login.now prepared.owner fields user)
      (spelled-some (value_or_empty id_name fields) _ login.shows, (spelled-some (value_or_empty private_id_name fields) _ login.owns, (nick-some (value_or_empty nick_name fields) nick, (not-so _ (ap is_some login.shows), (not-so _ (ap is_some digest), (ap is_some login.values, (same-digest user.cid prepared.owner (digest ∙ ap Some (sym cid-is)), (not-so _ nick, (left, (login.address, (registered setup.plain.registered_only (is_account hub user.key) (λ only. ap (is_account hub) key-is ∙ login.registered only), (free.0, (free.1, tt)))))))))))))

  goes : effect_of_line setup hash f c login.bytes login.now ≡ admits hub own prepared (is_account hub (user_after own fields).key) (user_after own fields)
  unfolding request_denied accepted_effect
  goes =
      let same = prepared-bytes setup hash (f.about c).sender.challenge login.bytes in
      let asks = broadcast-asks login.line.kind login.line.command login.kind login.command in
      heard hub own prepared login.now login.line stages.Identify requests.Login login.may refl
      (ap (λ (bs : List ℕ). length bs == 0) same ∙ some-read login.bytes login.line login.grammar) (ap lines.reading same ∙ reads) asks
      (denied-none hub own prepared login.now login.line stages.Identify requests.Login login.may (own-named own.sender.sid login.line.from login.from) asks
      (ap (login_denied hub own prepared.owner login.now) login.words ∙ allowed))
      ∙ ap (logs_in hub own prepared) login.words

  admitted : (account : Bool) → is_account hub (user_after own fields).key ≡ account
      → stage_after (admits hub own prepared account (user_after own fields)).change own.stage ≡ (if account then stages.Verify else stages.Normal)
  admitted true is = refl
  admitted false is = refl

pub own-stage : (c : ℕ) (effect : Effect) (f : Facts) (stage : Stage) → (f.about c).stage ≡ stage → is_present stage ≡ false → (about_after c effect f.about c).stage ≡ stage_after effect.change (f.about c).stage
own-stage c effect f stage at absent = grind arith

pub line-stage : (setup : Configured) (hash : List ℕ → List ℕ) (h : List Entry) (e : Entry) (c : ℕ) (bytes : List ℕ) (now : ℕ) → e.call ≡ Line c bytes now
    → ((facts setup hash (e ∷ h)).about c).stage ≡ (about_after c (effect_of_line setup hash (facts setup hash h) c bytes now) (facts setup hash h).about c).stage
unfolding facts after happens
line-stage setup hash h e c bytes now call = ap (λ call. ((after setup hash (facts setup hash h) e.caller call).about c).stage) call

pub logins_are_accepted : LoginsAreAccepted
logins_are_accepted setup hash h e c fields login =
    let f : Facts = facts setup hash h in
    let user : Listed = user_after (own_of (f.about c)) fields in
    line-stage setup hash h e c login.bytes login.now login.call
    ∙ own-stage c (effect_of_line setup hash f c login.bytes login.now) f stages.Identify login.may refl
    ∙ ap (λ (effect : Effect). stage_after effect.change (f.about c).stage) (goes login)
    ∙ admitted login (is_account (sight_of setup f) user.key) refl
    ∙ ap (λ (key : List ℕ). if is_account (sight_of setup f) key then stages.Verify else stages.Normal) (key-is login)

-- ---- a password

none-from : (kind : Kind) (ws : List (List ℕ)) (from target : Option ℕ) (features : Option (List ℕ)) → kind ≡ kinds.Hub → IsAddressed kind ws from target features → from ≡ None
none-from kind ws from target features is says = (subst (λ k. IsAddressed k ws from target features) is says).1

some-same : (a b : List ℕ) → Some a ≡ Some b → a ≡ b
some-same a b is = cc is

pub passwords_are_accepted : PasswordsAreAccepted
unfolding request_denied accepted_effect entry_grounds
passwords_are_accepted setup hash h e c account gives =
    let f : Facts = facts setup hash h in
    let hub : HubView = sight_of setup f in
    let own : SenderView = own_of (f.about c) in
    let prepared : PreparedLine = prepared_line setup hash (f.about c).sender.challenge gives.bytes in
    let user : Listed = listed_user own.sender.sid own.fields in
    let same = prepared-bytes setup hash (f.about c).sender.challenge gives.bytes in
    let asks = hub-asks gives.line.kind gives.line.command gives.kind gives.command in
    let expected : hash (account.password ++ (f.about c).sender.challenge) ≡ own.expected =
    some-same _ _ (ap (password_of hash (f.about c).sender.challenge) (sym gives.has) ∙ (vouched_of setup hash h c).waits gives.waits) in
    let key : user.key ≡ key_in own.fields = listed-key own.sender.sid own.fields in
    let cid : user.cid ≡ cid_in own.fields = listed-cid own.sender.sid own.fields in
    let left = free-left (left_of_bans hub.bans user.cid gives.now) (ap (λ (x : List ℕ). left_of_bans hub.bans x gives.now) cid ∙ gives.unbanned) in
    let free = unclaimed setup hash h user.key user.cid (subst (λ (x : List ℕ). IsFree setup hash h x user.cid) (sym key)
    (subst (IsFree setup hash h (key_in own.fields)) (sym cid) gives.free)) in
    let allowed : password_denied hub own gives.now gives.line.params ≡ None =
    all-pass (password_grounds hub own gives.now (digest_given gives.line.params) user)
    (same-digest own.expected (digest_given gives.line.params) (gives.spells ∙ ap Some expected), (left, (free.0, (free.1, tt)))) in
    let none : names_another own.sender.sid gives.line.from ≡ false =
    ap (names_another own.sender.sid) (none-from gives.line.kind gives.grammar.addresses gives.line.from gives.line.target gives.line.features gives.kind gives.grammar.addressed) in
    line-stage setup hash h e c gives.bytes gives.now gives.call
    ∙ own-stage c (effect_of_line setup hash f c gives.bytes gives.now) f stages.Verify gives.waits refl
    ∙ ap (λ (effect : Effect). stage_after effect.change (f.about c).stage)
    (heard hub own prepared gives.now gives.line stages.Verify requests.Password gives.waits refl
    (ap (λ (bs : List ℕ). length bs == 0) same ∙ some-read gives.bytes gives.line gives.grammar) (ap lines.reading same ∙ reading-of gives.bytes gives.line gives.grammar) asks
    (denied-none hub own prepared gives.now gives.line stages.Verify requests.Password gives.waits none asks allowed))
