-- Conversations are played: what each call is answered, and what is known of the hub after it, is computed.
use Rattle.std.proofs.Common.{◌≡◌, ◌∙◌, ◌++◌, ap, refl, sym, subst, ℕ, suc, Bool, true, false, ◌&&◌, ◌||◌, not, List, [], ◌∷◌, length, map, filter, Option, Some, None, Result, arith}
use Rattle.std.specs.Prelude.{◌==◌, if◌then◌else◌, cond, take}
use Rattle.std.specs.List.{list_any}
use Rattle.std.specs.Option.{option_and_then, option_map, option_map_or}
use Rattle.std.specs.Str.{bytes_eq}
use Rattle.std.proofs.lemmas.Bool.{and_parts, false≢true}
use Rattle.std.proofs.lemmas.Slice.Eq.{bytes_eq-Decides}
use Rattle.adc_base32.specs.Spelled.{spelled_bytes}
use Rattle.adc_base32.specs.Turns.{following, is_taken, next_within}
use Rattle.adc_line.specs.declared.fault.LineFault.{LineFault}
use Rattle.adc_line.specs.Lines.{Reading, reading}
use Rattle.inf_fields.specs.Field.{Field}
use Rattle.inf_fields.specs.FieldNames.{private_id_name}
use Rattle.hub_rules.specs.declared.effect.Effect.{Effect}
use Rattle.hub_rules.specs.declared.history.Call.{Call}
use Rattle.hub_rules.specs.declared.history.Call.TheVariants.{Join, Line, Quit, Take}
use Rattle.hub_rules.specs.declared.history.Entry.{Entry}
use Rattle.hub_rules.specs.declared.history.Reply.{Reply}
use Rattle.hub_rules.specs.declared.history.Reply.TheVariants.{Left, Said}
use Rattle.hub_rules.specs.Accounts.{account_with}
use Rattle.hub_rules.specs.Configured.{ConfiguredAccount, Configured}
use Rattle.hub_rules.specs.Effects.{departure, effect_of_reading, is_over, line_effect}
use Rattle.hub_rules.specs.Facts.{Facts, after, facts, happens, has_joins, has_place, next_sid, own_of, sight_of, with_connection, without_connection}
use Rattle.hub_rules.specs.Identities.{key_in, value_or_empty}
use Rattle.hub_rules.specs.Legal.{Legal, MayCall, is_open, join_reply, reply, take_reply, verdict_of}
use Rattle.hub_rules.specs.Prepared.{owner_digest, password_digest, password_of, prepared_line, update_of}
use Rattle.hub_rules.specs.Quiet.{nothing}
use Rattle.hub_rules.specs.Views.{PreparedLine}
use Rattle.hub_examples.proofs.Known.{Known, about_in, facts_of, happens-known, is_known, joins-known, taken-known, with_effect, with_newcomer, with_taken}

-- ---- the hash

-- what the examples have it make of bytes: the first 24 of them
abbrev pub sample : List ℕ → List ℕ
sample bytes = take 24 bytes

-- it is so for these
abbrev pub IsSample : (List ℕ → List ℕ) → List (List ℕ) → Type 0
IsSample hash [] = Unit {0}
IsSample hash (bytes ∷ more) = (hash bytes ≡ sample bytes) × IsSample hash more

abbrev is_among : List (List ℕ) → List ℕ → Bool
is_among hashed bytes = list_any (bytes_eq bytes) hashed

one-of : (hash : List ℕ → List ℕ) (bytes : List ℕ) (one : List ℕ) (more : List (List ℕ)) (same : Bool) → bytes_eq bytes one ≡ same → (same || is_among more bytes) ≡ true
    → hash one ≡ sample one → (is_among more bytes ≡ true → hash bytes ≡ sample bytes) → hash bytes ≡ sample bytes
one-of hash bytes one more same is among here there = grind (arith, bytes_eq-Decides)

same-digest : (hash : List ℕ → List ℕ) (hashed : List (List ℕ)) → IsSample hash hashed → (bytes : List ℕ) → is_among hashed bytes ≡ true → hash bytes ≡ sample bytes
same-digest hash [] so bytes among = absurd (false≢true among)
same-digest hash (one ∷ more) so bytes among = one-of hash bytes one more (bytes_eq bytes one) refl among so.0 (same-digest hash more so.1 bytes)

-- what is hashed of a line that says this
abbrev owner_in : Option (List Field) → Option (List ℕ)
owner_in said = option_and_then (λ (u : List Field). spelled_bytes 24 (value_or_empty private_id_name u)) said

abbrev account_in : Configured → Option (List Field) → Option ConfiguredAccount
account_in setup said = option_and_then (λ (u : List Field). account_with (key_in u) setup.accounts) said

abbrev is_account_hashed : List (List ℕ) → List ℕ → Option ConfiguredAccount → Bool
is_account_hashed hashed challenge account = option_map_or (λ (a : ConfiguredAccount). is_among hashed (a.password ++ challenge)) account true

-- all that is hashed of such a line is among these
abbrev is_hashed : Configured → List (List ℕ) → List ℕ → Option (List Field) → Bool
is_hashed setup hashed challenge said =
    option_map_or (is_among hashed) (owner_in said) true && is_account_hashed hashed challenge (account_in setup said)

abbrev prepared_of : Configured → (List ℕ → List ℕ) → List ℕ → List ℕ → Result Reading LineFault → PreparedLine
prepared_of setup hash challenge bytes read = record {
  bytes = bytes;
  owner = owner_digest hash (update_of read);
  password = password_digest setup hash challenge (update_of read);
}

module _ (hash : List ℕ → List ℕ) (hashed : List (List ℕ)) (so : IsSample hash hashed) where
  same-owner : (owner : Option (List ℕ)) → option_map_or (is_among hashed) owner true ≡ true → option_map hash owner ≡ option_map sample owner
  same-owner None among = refl
  same-owner (Some bytes) among = ap Some (same-digest hash hashed so bytes among)

  same-password : (challenge : List ℕ) (account : Option ConfiguredAccount) → is_account_hashed hashed challenge account ≡ true
      → password_of hash challenge account ≡ password_of sample challenge account
  same-password challenge None among = refl
  same-password challenge (Some account) among = ap Some (same-digest hash hashed so (account.password ++ challenge) among)

  same-prepared : (setup : Configured) (challenge bytes : List ℕ) (read : Result Reading LineFault) → is_hashed setup hashed challenge (update_of read) ≡ true
      → prepared_of setup hash challenge bytes read ≡ prepared_of setup sample challenge bytes read
  same-prepared setup challenge bytes read are i =
      let said = update_of read in
      let both = and_parts (option_map_or (is_among hashed) (owner_in said) true) (is_account_hashed hashed challenge (account_in setup said)) are in
      record {
        bytes = bytes;
        owner = same-owner (owner_in said) both.0 i;
        password = same-password challenge (account_in setup said) both.1 i;
      }

-- ---- a call more

-- a history, what is known of the hub after it, and whether it is legal
pub record Run : Type 0 where
  pub legal : Bool
  pub history : List Entry
  pub known : Known

abbrev pub goes : Bool → ℕ → Call → Reply → Known → Run → Run
goes may caller call reply t run =
    record { legal = run.legal && may; history = record { caller = caller; call = call; reply = reply } ∷ run.history; known = t }

-- connection c is open, and this caller joined it
abbrev names : Known → ℕ → ℕ → Bool
names k caller c = is_open c (facts_of k) && (((about_in k.abouts c).owner == caller) && is_known c k)

-- what a line leads to that is read so
abbrev effect_by : Configured → Facts → ℕ → List ℕ → ℕ → PreparedLine → Result Reading LineFault → Effect
effect_by setup f c bytes now prepared read =
    if is_over (f.about c).stage then nothing
    else if length bytes == 0 then nothing
    else effect_of_reading (sight_of setup f) (own_of (f.about c)) prepared now read

abbrev heard : Configured → ℕ → List ℕ → ℕ → Result Reading LineFault → Known → Known
heard setup c bytes now read k =
    with_effect c (effect_by setup (facts_of k) c bytes now (prepared_of setup sample (about_in k.abouts c).sender.challenge bytes read) read) k

abbrev answered : ℕ → ℕ → List ℕ → ℕ → Bool → Known → Run → Run
answered caller c bytes now may t run = goes may caller (Line c bytes now) (Said (verdict_of (about_in t.abouts c).stage)) t run

abbrev with_line : Configured → List (List ℕ) → ℕ → ℕ → List ℕ → ℕ → Result Reading LineFault → Run → Run
with_line setup hashed caller c bytes now read run =
    answered caller c bytes now (names run.known caller c && is_hashed setup hashed (about_in run.known.abouts c).sender.challenge (update_of read))
    (heard setup c bytes now read run.known) run

-- no open connection has the identifier after the last one
abbrev is_next_free : Known → Bool
is_next_free k = not (is_taken (following k.last 0) (map (λ c. (about_in k.abouts c).sender.sid) k.opened))

abbrev joined : Bool → ℕ → List ℕ → List ℕ → Known → Known
joined accepted caller peer challenge k = if accepted then with_newcomer caller (following k.last 0) peer challenge k else k

-- the connection left
abbrev with_quit : ℕ → Known → Known
with_quit c k =
    let gone = with_effect c (departure (about_in k.abouts c).stage (about_in k.abouts c).sender.sid) k in
    record gone { opened = filter (λ d. not (d == c)) gone.opened }

abbrev with_call : Configured → List (List ℕ) → Run → ℕ → Call → Run
with_call setup hashed run caller (Join peer challenge now) =
    goes (is_next_free run.known) caller (Join peer challenge now) (join_reply (has_place setup (facts_of run.known)) (has_joins (facts_of run.known)) (length run.known.abouts))
    (joined (has_place setup (facts_of run.known) && has_joins (facts_of run.known)) caller peer challenge run.known) run
with_call setup hashed run caller (Line c bytes now) = with_line setup hashed caller c bytes now (reading bytes) run
with_call setup hashed run caller (Quit c) = goes (names run.known caller c) caller (Quit c) Left (with_quit c run.known) run
with_call setup hashed run caller (Take c count) =
    goes (names run.known caller c) caller (Take c count) (take_reply count (about_in run.known.abouts c)) (with_taken c count run.known) run

abbrev pub played : Configured → List (List ℕ) → Run → List Entry → Run
played setup hashed from [] = from
played setup hashed from (e ∷ h) = with_call setup hashed (played setup hashed from h) e.caller e.call

-- ---- what is played is so

-- a history is legal, and comes to this
pub record Comes (setup : Configured) (hash : List ℕ → List ℕ) (h : List Entry) (k : Known) : Type 0 where
  pub legal : Legal setup hash h
  pub known : facts setup hash h ≡ facts_of k

-- one entry more
pub goes-on : (setup : Configured) (hash : List ℕ → List ℕ) (h : List Entry) (k t : Known) (e : Entry) → Comes setup hash h k
    → MayCall (facts_of k) e.caller e.call → e.reply ≡ reply setup hash (facts_of k) e.caller e.call
    → after setup hash (facts_of k) e.caller e.call ≡ facts_of t → Comes setup hash (e ∷ h) t
unfolding Legal facts
goes-on setup hash h k t e before may answered done = grind arith

-- the next number, where nobody has it
next-number : (most last : ℕ) (taken : List ℕ) → is_taken (following last 0) taken ≡ false → next_within (suc most) last taken ≡ following last 0
unfolding next_within
next-number most last taken free = ap (λ b. cond b (next_within most (following last 0) taken) (following last 0)) free

pub next-at : (f : Facts) → is_taken (following f.last 0) (map (λ c. (f.about c).sender.sid) f.opened) ≡ false → next_sid f ≡ following f.last 0
next-at f free = next-number 1_048_574 f.last (map (λ c. (f.about c).sender.sid) f.opened) free

not-true : (b : Bool) → not b ≡ true → b ≡ false
not-true b is = grind arith

is-named : (k : Known) (caller c : ℕ) → names k caller c ≡ true → (is_open c (facts_of k) ≡ true) × ((about_in k.abouts c).owner ≡ caller) × (is_known c k ≡ true)
is-named k caller c named = grind arith

module _ (setup : Configured) (hash : List ℕ → List ℕ) (hashed : List (List ℕ)) (so : IsSample hash hashed) where
  abbrev pub Sound : Run → Type 0
  Sound run = run.legal ≡ true → Comes setup hash run.history run.known

  joined-known : (k : Known) (caller : ℕ) (peer challenge : List ℕ) (accepted : Bool) → is_next_free k ≡ true
      → (if accepted then with_connection (facts_of k) caller peer challenge else facts_of k) ≡ facts_of (joined accepted caller peer challenge k)
  joined-known k caller peer challenge true free =
      joins-known caller (following k.last 0) peer challenge k
      (next-at (facts_of k) (not-true (is_taken (following k.last 0) (map (λ c. (about_in k.abouts c).sender.sid) k.opened)) free))
  joined-known k caller peer challenge false free = refl

  line-known : (k : Known) (caller c : ℕ) (bytes : List ℕ) (now : ℕ) → is_known c k ≡ true
      → is_hashed setup hashed (about_in k.abouts c).sender.challenge (update_of (reading bytes)) ≡ true
      → after setup hash (facts_of k) caller (Line c bytes now) ≡ facts_of (heard setup c bytes now (reading bytes) k)
  unfolding after line_effect prepared_line
  line-known k caller c bytes now there are =
      let challenge = (about_in k.abouts c).sender.challenge in
      ap (λ prepared. happens c (effect_by setup (facts_of k) c bytes now prepared (reading bytes)) (facts_of k)) (same-prepared hash hashed so setup challenge bytes (reading bytes) are)
      ∙ happens-known c (effect_by setup (facts_of k) c bytes now (prepared_of setup sample challenge bytes (reading bytes)) (reading bytes)) k there

  pub called : (run : Run) (caller : ℕ) (call : Call) → Sound run → (with_call setup hashed run caller call).legal ≡ true
      → Comes setup hash (with_call setup hashed run caller call).history (with_call setup hashed run caller call).known
  unfolding reply after without_connection
  called run caller (Join peer challenge now) before legal =
      let k = run.known in
      let both = and_parts run.legal (is_next_free k) legal in
      let place = has_place setup (facts_of k) in
      let counted = has_joins (facts_of k) in
      goes-on setup hash run.history k (joined (place && counted) caller peer challenge k)
      (record { caller = caller; call = Join peer challenge now; reply = join_reply place counted (length k.abouts) }) (before both.0) tt refl
      (joined-known k caller peer challenge (place && counted) both.1)
  called run caller (Line c bytes now) before legal =
      let k = run.known in
      let are = is_hashed setup hashed (about_in k.abouts c).sender.challenge (update_of (reading bytes)) in
      let t = heard setup c bytes now (reading bytes) k in
      let both = and_parts run.legal (names k caller c && are) legal in
      let parts = and_parts (names k caller c) are both.1 in
      let named = is-named k caller c parts.0 in
      let done = line-known k caller c bytes now named.2 parts.1 in
      goes-on setup hash run.history k t (record { caller = caller; call = Line c bytes now; reply = Said (verdict_of (about_in t.abouts c).stage) })
      (before both.0) (named.0, named.1) (ap (λ f. Said (verdict_of (f.about c).stage)) (sym done)) done
  called run caller (Quit c) before legal =
      let k = run.known in
      let both = and_parts run.legal (names k caller c) legal in
      let named = is-named k caller c both.1 in
      goes-on setup hash run.history k (with_quit c k) (record { caller = caller; call = Quit c; reply = Left }) (before both.0) (named.0, named.1) refl
      (ap (without_connection c) (happens-known c (departure (about_in k.abouts c).stage (about_in k.abouts c).sender.sid) k named.2))
  called run caller (Take c count) before legal =
      let k = run.known in
      let both = and_parts run.legal (names k caller c) legal in
      let named = is-named k caller c both.1 in
      goes-on setup hash run.history k (with_taken c count k) (record { caller = caller; call = Take c count; reply = take_reply count (about_in k.abouts c) })
      (before both.0) (named.0, named.1) refl (taken-known c count k named.2)

  pub plays : (from : Run) → Sound from → (h : List Entry) → Sound (played setup hashed from h)
  plays from before [] = before
  plays from before (e ∷ h) = called (played setup hashed from h) e.caller e.call (plays from before h)

-- ---- what a conversation comes to

-- before the first call
abbrev pub opening : Configured → Run
opening setup = record { legal = true; history = []; known = record { last = 0; opened = []; present = []; bans = []; topic = setup.topic; abouts = [] } }

pub opens : (setup : Configured) (hash : List ℕ → List ℕ) → Comes setup hash [] (opening setup).known
unfolding Legal facts
opens setup hash = record { legal = tt; known = refl }

-- a history that was played from its opening to its end
pub computed : (setup : Configured) (hash : List ℕ → List ℕ) (hashed : List (List ℕ)) → IsSample hash hashed → (h : List Entry) (k : Known)
    → played setup hashed (opening setup) h ≡ record { legal = true; history = h; known = k } → Comes setup hash h k
computed setup hash hashed so h k is =
    subst (λ run. Comes setup hash run.history run.known) is
    (plays setup hash hashed so (opening setup) (λ legal. opens setup hash) h (ap (λ (run : Run). run.legal) is))
