-- After every history, whoever is present, or is waited for with a password, sent the PID of its CID in an accepted login.
use Rattle.std.proofs.Common.{◌≡◌, ◌∙◌, sym, ap, refl, subst, ℕ, Bool, true, false, not, ◌&&◌, ◌⊎◌, inl, inr, ◌==◌, List, [], ◌∷◌, Option, Some, None, Ok, cond, arith}
use Rattle.adc_base32.specs.Spelled.{spelled_bytes}
use Rattle.inf_fields.specs.FieldNames.{private_id_name}
use Rattle.hub_rules.specs.Prepared.{owner_digest}
use Rattle.hub_laws.proofs.Words.{ConnState, AllFalse, Becomes, Call, Change, Configured, Deny, Effect, Entry, Facts, Field, Kind, Line, Listed, Logs, Outcome, SenderView, PreparedLine, Reading, Request}
use Rattle.hub_laws.proofs.Words.{Sender, HubView, Stage, accepted_line, and_parts, becomes, bytes_eq, bytes_eq-Decides, cid_in, clean, codes, departure, effect_of_line, eqb-true, facts, false≢true}
use Rattle.hub_laws.proofs.Words.{fields_after, first_ground, greets, grounds_of, infs, is_broadcast, is_digest, lets_in, login_grounds, merged_fields, merged_with, none-of}
use Rattle.hub_laws.proofs.Words.{option_map, outcome, own_of, prepared_line, proves, removed_by, request_of, revises, same-cid, shuts_out, sight_of, stage_after, stage_next, told_of, update-free}
use Rattle.hub_laws.proofs.Words.{update_of, user_after, value_or_empty, waits}
use Rattle.hub_laws.proofs.Words.denials
use Rattle.hub_laws.proofs.Words.kinds
use Rattle.hub_laws.proofs.Words.lines
use Rattle.hub_laws.proofs.Words.requests
use Rattle.hub_laws.proofs.Words.senders
use Rattle.hub_laws.proofs.Words.stages
use Rattle.hub_laws.proofs.Words.updates
use Rattle.hub_laws.specs.Owners.{CidsAreShown, HasShown}
use Rattle.hub_laws.proofs.FreeNames.{listed-cid, listed-fields}
use Rattle.hub_laws.proofs.Entrances.{read-accepted}
use Rattle.hub_laws.proofs.AccountPasswords.{is-inf, prepared-bytes}

-- its login was accepted
abbrev is_known : Stage → Bool
is_known stages.Verify = true
is_known stages.Normal = true
is_known stage = false

-- ---- one line

abbrev is_pid : Deny → Bool
is_pid denials.BadPid = true
is_pid deny = false

-- a login whose digest is the CID of its user
record Shows (own : SenderView) (line : PreparedLine) (said : Option Reading) (fields : List Field) : Type 0 where
  update : List Field
  reading : Reading
  is_said : said ≡ Some reading
  at : own.stage ≡ stages.Identify
  asks : request_of own.stage reading.kind reading.command ≡ requests.Login
  words : updates.reading reading.params ≡ Ok update
  digest : line.owner ≡ Some (cid_in fields)

record Keeps (own : SenderView) (fields : List Field) : Type 0 where
  known : is_known own.stage ≡ true
  same : cid_in fields ≡ cid_in own.fields

abbrev IsShowing : SenderView → PreparedLine → Option Reading → Effect → Type 0
IsShowing own line said effect =
    is_known (stage_after effect.change own.stage) ≡ true → Keeps own (fields_after effect.change own.fields) ⊎ Shows own line said (fields_after effect.change own.fields)

right-pid : (cid : List ℕ) (digest : Option (List ℕ)) → not (is_digest cid digest) ≡ false → digest ≡ Some cid
right-pid cid digest is = grind (arith, bytes_eq-Decides)

login-pid : (hub : HubView) (own : SenderView) (now : ℕ) (digest : Option (List ℕ)) (u : List Field) (user : Listed) → first_ground (login_grounds hub own now digest u user) ≡ None
    → digest ≡ Some user.cid
unfolding login_grounds
login-pid hub own now digest u user none =
    let pid : AllFalse (grounds_of is_pid (login_grounds hub own now digest u user)) = none-of is_pid (login_grounds hub own now digest u user) none in
    right-pid user.cid digest pid.0

shows-login : (hub : HubView) (own : SenderView) (line : PreparedLine) (now : ℕ) (reading : Reading) (u : List Field) → Logs hub own line now reading u
    → Shows own line (Some reading) (user_after own u).fields
shows-login hub own line now reading u logs = record {
  update = u;
  reading = reading;
  is_said = refl;
  at = logs.at;
  asks = logs.asks;
  words = logs.words;
  digest = login-pid hub own now line.owner u (user_after own u) logs.allowed
      ∙ ap Some (listed-cid own.sender.sid (merged_with own.fields (clean u own.sender.peer)) ∙ ap cid_in (sym (listed-fields own.sender.sid (merged_with own.fields (clean u own.sender.peer)))));
}

no-gone : is_known stages.Gone ≡ true → ⊥
no-gone is = false≢true is

no-identify : is_known stages.Identify ≡ true → ⊥
no-identify is = false≢true is

module _ {hub : HubView} {own : SenderView} {line : PreparedLine} {now : ℕ} where
  showing : {said : Option Reading} {request : Request} {effect : Effect} → Outcome hub own line now said request effect → (updates : List (List Field)) → own.fields ≡ merged_fields updates
      → IsShowing own line said effect
  showing (shuts_out deny) infs known is = absurd (no-gone is)
  showing (greets reading features at applies) infs known is = absurd (no-identify is)
  showing (waits reading u logs account) infs known is = inr (shows-login hub own line now reading u logs)
  showing (lets_in reading u logs account) infs known is = inr (shows-login hub own line now reading u logs)
  showing (proves reading at asks none) infs known is = inl (record { known = ap is_known at; same = refl })
  showing (revises reading u at words none) infs known is =
      inl (record { known = is; same = same-cid own u infs known (update-free hub own u (user_after own u) none).1 })
  showing _ infs known is = inl (record { known = is; same = refl })

-- ---- the line that shows it

is-broadcast : (kind : Kind) → is_broadcast kind ≡ true → kind ≡ kinds.Broadcast
is-broadcast kind is = grind arith

pub prepared-owner : (setup : Configured) (hash : List ℕ → List ℕ) (challenge bytes : List ℕ) → (prepared_line setup hash challenge bytes).owner ≡ owner_digest hash (update_of (lines.reading bytes))
unfolding prepared_line
prepared-owner setup hash challenge bytes = refl

pub owner-login : (hash : List ℕ → List ℕ) (line : Reading) (u : List Field) → (is_broadcast line.kind && bytes_eq line.command (codes "INF")) ≡ true → updates.reading line.params ≡ Ok u
    → owner_digest hash (update_of (Ok line)) ≡ option_map hash (spelled_bytes 24 (value_or_empty private_id_name u))
owner-login hash line u inf words = grind arith

record Pid (hash : List ℕ → List ℕ) (spelled : Option (List ℕ)) (cid : List ℕ) : Type 0 where
  pid : List ℕ
  spells : spelled ≡ Some pid
  hashes : hash pid ≡ cid

pid-of : (hash : List ℕ → List ℕ) (spelled : Option (List ℕ)) (cid : List ℕ) → option_map hash spelled ≡ Some cid → Pid hash spelled cid
pid-of hash (Some pid) cid is = record { pid = pid; spells = refl; hashes = cc is }
pid-of hash None cid is = let no : ⊥ = cc is in absurd no

module _ (setup : Configured) (hash : List ℕ → List ℕ) (h : List Entry) (e : Entry) (c : ℕ) where
  abbrev own : SenderView
  own = own_of ((facts setup hash h).about c)

  has-shown : (bytes : List ℕ) (now : ℕ) (fields : List Field) → e.call ≡ Line c bytes now
      → Shows own (prepared_line setup hash own.sender.challenge bytes)
      (accepted_line (sight_of setup (facts setup hash h)) own (prepared_line setup hash own.sender.challenge bytes) now) fields
      → HasShown setup hash (e ∷ h) c (cid_in fields)
  has-shown bytes now fields call shows =
      let line : PreparedLine = prepared_line setup hash own.sender.challenge bytes in
      let reads : lines.reading bytes ≡ Ok shows.reading =
      ap lines.reading (sym (prepared-bytes setup hash own.sender.challenge bytes)) ∙ read-accepted (sight_of setup (facts setup hash h)) own line now shows.reading shows.is_said in
      let inf = is-inf shows.reading.kind shows.reading.command (subst (λ stage. request_of stage shows.reading.kind shows.reading.command ≡ requests.Login) shows.at shows.asks) in
      let parts = and_parts (is_broadcast shows.reading.kind) (bytes_eq shows.reading.command (codes "INF")) inf in
      let pid = pid-of hash (spelled_bytes 24 (value_or_empty private_id_name shows.update)) (cid_in fields)
      (sym (prepared-owner setup hash own.sender.challenge bytes ∙ ap (λ r. owner_digest hash (update_of r)) reads ∙ owner-login hash shows.reading shows.update inf shows.words) ∙ shows.digest) in
      record {
        later = [];
        entry = e;
        earlier = h;
        stands = refl;
        may = shows.at;
        bytes = bytes;
        now = now;
        call = call;
        line = shows.reading;
        reading = reads;
        kind = is-broadcast shows.reading.kind parts.0;
        command = (bytes_eq-Decides shows.reading.command (codes "INF")).0 parts.1;
        accepts = shows.is_said;
        fields = shows.update;
        words = shows.words;
        pid = pid.pid;
        spells = pid.spells;
        hashes = pid.hashes;
      }

-- ---- the history grows

shown-still : (setup : Configured) (hash : List ℕ → List ℕ) (h : List Entry) (e : Entry) (c : ℕ) (cid : List ℕ) → HasShown setup hash h c cid → HasShown setup hash (e ∷ h) c cid
shown-still setup hash h e c cid has = record {
  later = e ∷ has.later;
  entry = has.entry;
  earlier = has.earlier;
  stands = ap (λ xs. e ∷ xs) has.stands;
  may = has.may;
  bytes = has.bytes;
  now = has.now;
  call = has.call;
  line = has.line;
  reading = has.reading;
  kind = has.kind;
  command = has.command;
  accepts = has.accepts;
  fields = has.fields;
  words = has.words;
  pid = has.pid;
  spells = has.spells;
  hashes = has.hashes;
}

abbrev ShownBy : Configured → (List ℕ → List ℕ) → List Entry → ℕ → ConnState → Type 0
ShownBy setup hash h c a = is_known a.stage ≡ true → HasShown setup hash h c (cid_in a.fields)

module _ (setup : Configured) (hash : List ℕ → List ℕ) (h : List Entry) (e : Entry) where
  shown-line : (c : ℕ) (bytes : List ℕ) (now : ℕ) → e.call ≡ Line c bytes now → ShownBy setup hash h c ((facts setup hash h).about c)
      → is_known (stage_after (effect_of_line setup hash (facts setup hash h) c bytes now).change ((facts setup hash h).about c).stage) ≡ true
      → HasShown setup hash (e ∷ h) c (cid_in (fields_after (effect_of_line setup hash (facts setup hash h) c bytes now).change ((facts setup hash h).about c).fields))
  shown-line c bytes now call shown is =
      let f : Facts = facts setup hash h in
      let line : PreparedLine = prepared_line setup hash (f.about c).sender.challenge bytes in
      by-either c bytes now call shown (showing (outcome (sight_of setup f) (own_of (f.about c)) line now) (infs setup hash h c) (told_of setup hash h c).tells is)
    where
      by-either : (c : ℕ) (bytes : List ℕ) (now : ℕ) → e.call ≡ Line c bytes now → ShownBy setup hash h c ((facts setup hash h).about c)
          → {fields : List Field} → Keeps (own_of ((facts setup hash h).about c)) fields
          ⊎ Shows (own_of ((facts setup hash h).about c)) (prepared_line setup hash ((facts setup hash h).about c).sender.challenge bytes)
          (accepted_line (sight_of setup (facts setup hash h)) (own_of ((facts setup hash h).about c)) (prepared_line setup hash ((facts setup hash h).about c).sender.challenge bytes) now) fields
          → HasShown setup hash (e ∷ h) c (cid_in fields)
      by-either c bytes now call shown (inl keeps) =
          subst (HasShown setup hash (e ∷ h) c) (sym keeps.same) (shown-still setup hash h e c _ (shown keeps.known))
      by-either c bytes now call shown (inr shows) = has-shown setup hash h e c bytes now _ call shows

  shown-next : (d : ℕ) (removed same : Bool) (change : Change) (a : ConnState) → ShownBy setup hash h d a
      → (same ≡ true → is_known (stage_after change a.stage) ≡ true → HasShown setup hash (e ∷ h) d (cid_in (fields_after change a.fields)))
      → is_known (stage_next removed same change a.stage) ≡ true → HasShown setup hash (e ∷ h) d (cid_in (cond same (fields_after change a.fields) a.fields))
  shown-next d true same change a shown mine is = absurd (no-gone is)
  shown-next d false true change a shown mine is = mine refl is
  shown-next d false false change a shown mine is = shown-still setup hash h e d _ (shown is)

  shown-after : (d : ℕ) {call : Call} {a : ConnState} → Becomes setup hash (facts setup hash h) e.caller d call a → e.call ≡ call → ShownBy setup hash h d ((facts setup hash h).about d)
      → ShownBy setup hash (e ∷ h) d a
  shown-after d (Becomes.joins peer challenge now place at) call shown is = absurd (false≢true is)
  shown-after d (Becomes.says c bytes now) call shown is =
      let f : Facts = facts setup hash h in
      let effect : Effect = effect_of_line setup hash f c bytes now in
      shown-next d (removed_by effect (f.about d)) (d == c) effect.change (f.about d) shown
      (λ same. subst (λ x. ShownBy setup hash h x (f.about x) → is_known (stage_after effect.change (f.about x).stage) ≡ true
      → HasShown setup hash (e ∷ h) x (cid_in (fields_after effect.change (f.about x).fields))) (sym (eqb-true d c same)) (shown-line c bytes now call) shown) is
  shown-after d (Becomes.quits c) call shown is =
      let f : Facts = facts setup hash h in
      shown-next d (removed_by (departure (f.about c).stage (f.about c).sender.sid) (f.about d)) (d == c) (Sender senders.Falls) (f.about d) shown
      (λ same gone. absurd (no-gone gone)) is
  shown-after d _ call shown is = shown-still setup hash h e d _ (shown is)

shown_of : (setup : Configured) (hash : List ℕ → List ℕ) (h : List Entry) (d : ℕ) → ShownBy setup hash h d ((facts setup hash h).about d)
unfolding facts
shown_of setup hash [] d is = absurd (no-gone is)
shown_of setup hash (e ∷ h) d is = shown-after setup hash h e d (becomes setup hash (facts setup hash h) e.caller d e.call) refl (shown_of setup hash h d) is

pub cids_are_shown : CidsAreShown
cids_are_shown setup hash h c at = shown_of setup hash h c (ap is_known at)
