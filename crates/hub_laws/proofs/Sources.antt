-- Each line that a call owes a connection is one of these.
use Rattle.std.proofs.Common.{◌≡◌, ◌∙◌, sym, ap, ap₂, refl, subst, ℕ, ◌<◌, Bool, true, false, ◌||◌, ◌⊎◌, inl, inr, ◌==◌, List, [], ◌∷◌, map, Option, Some, None, Result, Ok, Err, cond, arith}
use Rattle.std.specs.Prelude.{codes, if◌then◌else◌}
use Rattle.std.specs.List.{Contains}
use Rattle.std.specs.Result.{result_unwrap_or}
use Rattle.std.proofs.lemmas.List.Elements.{All-contains_itself}
use Rattle.adc_base32.specs.Sids.{sid_count}
use Rattle.adc_base32.proofs.Turns.{next_free-range}
use Rattle.adc_line.specs.Grammar.{Reads}
use Rattle.login_state.specs.Denials.{denial_line}
use Rattle.login_state.specs.Requests.{to_users}
use Rattle.hub_rules.specs.Configured.{ConfiguredEntry}
use Rattle.hub_rules.specs.Effects.{ping_of}
use Rattle.hub_rules.specs.History.{about}
use Rattle.hub_rules.specs.Texts.{challenge_line, done_line, hub_line, identifier_line, menu_line, removal_line, support_line, topic_line, update_line}
use Rattle.hub_laws.proofs.Words.{Act, ConnState, AllByRecursion, Becomes, Call, Configured, Deny, Does, Done, Effect, Entry, Facts, Field, Join, Kind, Line, Listed, Outcome, SenderView, PreparedLine, Quit, Reading, Reads-of, Request, Stage, Take}
use Rattle.hub_laws.proofs.Words.{accepted_line, acts, bans_user, becomes, bytes_eq, chats, clean, denies, departure, effect_for_all, effect_of_line, eqb-true, facts, false≢true, greets}
use Rattle.hub_laws.proofs.Words.{has, ignores, is-normal, is_present, key_of_points, kicks, learns, lets_in, outcome, owes, own_of, passes, prepared_line, present_are_users, proves, quiet, quit_line}
use Rattle.hub_laws.proofs.Words.{request_at, request_in, request_of, revises, searches, sets_topic, share, shuts_out, sid, sight_of, stage, silent, stage_after, user_called, waits, with_line_feed}
use Rattle.hub_laws.proofs.Words.denials
use Rattle.hub_laws.proofs.Words.kinds
use Rattle.hub_laws.proofs.Words.requests
use Rattle.hub_laws.proofs.Words.stages
use Rattle.hub_laws.specs.Messages.{goes_to_users, is_hub_command}
use Rattle.hub_laws.specs.Refusals.{accepted}
use Rattle.hub_laws.specs.Welcome.{info_line}
use Rattle.hub_laws.proofs.Fields.{told-clean}
use Rattle.hub_laws.proofs.UserLists.{head-has, tail-has}
use Rattle.hub_laws.proofs.Logins.{line-stage, own-stage}
use Rattle.hub_laws.proofs.Outsiders.{owes-absent}
use Rattle.hub_laws.proofs.SenderOrder.{from-own, is-accepted}
use Rattle.hub_laws.proofs.Others.{is_for_users}
use Rattle.hub_laws.proofs.Pieces.{IsTold, from-all}
use Rattle.hub_laws.proofs.Removals.{found-here}
use Rattle.hub_laws.proofs.Secrets.{all-append, all-as}
use Rattle.hub_laws.proofs.Statuses.{IsStatus, refusals-told}
use Rattle.hub_laws.proofs.AccountPasswords.{prepared-bytes}
use Rattle.hub_laws.proofs.Welcome.{entrants_are_welcomed, entries_are_heard}

-- ---- which messages go to users

users-asked : (d q g m s p search : Bool)
    → is_for_users (result_unwrap_or (if (((d || q) || g) || m) || (s || p) then Err denials.Protocol else if search then Ok requests.Search else Ok requests.Message) requests.Nothing) ≡ true
    → (s || (d || (q || (g || (p || (m || false)))))) ≡ false
users-asked true q g m s p search is = absurd (false≢true is)
users-asked false true g m s p search is = absurd (false≢true is)
users-asked false false true m s p search is = absurd (false≢true is)
users-asked false false false true s p search is = absurd (false≢true is)
users-asked false false false false true p search is = absurd (false≢true is)
users-asked false false false false false true search is = absurd (false≢true is)
users-asked false false false false false false search is = refl

inf-first : (inf : Bool) (other : Request) (command : List ℕ) → is_for_users other ≡ false
    → is_for_users (if inf then other else result_unwrap_or (to_users command) requests.Nothing) ≡ true
    → (inf ≡ false) × (is_for_users (result_unwrap_or (to_users command) requests.Nothing) ≡ true)
inf-first true other command none is = absurd (false≢true (sym none ∙ is))
inf-first false other command none is = (refl, is)

record IsUsers (kind : Kind) (command : List ℕ) : Type 0 where
  kind_is : goes_to_users kind ≡ true
  command_is : is_hub_command command ≡ false

by-parts : (kind : Kind) (command : List ℕ) → goes_to_users kind ≡ true → (bytes_eq command (codes "INF") ≡ false) × (is_for_users (result_unwrap_or (to_users command) requests.Nothing) ≡ true)
    → IsUsers kind command
by-parts kind command is parts = record {
  kind_is = is;
  command_is = ap₂ ◌||◌ parts.0 (users-asked (bytes_eq command (codes "SID")) (bytes_eq command (codes "QUI")) (bytes_eq command (codes "GPA")) (bytes_eq command (codes "CMD"))
      (bytes_eq command (codes "SUP")) (bytes_eq command (codes "PAS")) (bytes_eq command (codes "SCH")) parts.1);
}

unwrapped : (inf : Bool) (first : Result Request Deny) (command : List ℕ)
    → result_unwrap_or (if inf then first else to_users command) requests.Nothing ≡ (if inf then result_unwrap_or first requests.Nothing else result_unwrap_or (to_users command) requests.Nothing)
unwrapped true first command = refl
unwrapped false first command = refl

hub-none : (command : List ℕ) → is_for_users (request_of stages.Normal kinds.Hub command) ≡ false
unfolding request_at
hub-none command = grind arith

users-only : (kind : Kind) (command : List ℕ) → is_for_users (request_of stages.Normal kind command) ≡ true → IsUsers kind command
unfolding request_at
users-only kinds.Broadcast command is =
    by-parts kinds.Broadcast command refl (inf-first (bytes_eq command (codes "INF")) requests.Update command refl
    (ap is_for_users (sym (unwrapped (bytes_eq command (codes "INF")) (Ok requests.Update) command)) ∙ is))
users-only kinds.Direct command is =
    by-parts kinds.Direct command refl (inf-first (bytes_eq command (codes "INF")) requests.Nothing command refl
    (ap is_for_users (sym (unwrapped (bytes_eq command (codes "INF")) (Err denials.Protocol) command)) ∙ is))
users-only kinds.Echo command is =
    by-parts kinds.Echo command refl (inf-first (bytes_eq command (codes "INF")) requests.Nothing command refl
    (ap is_for_users (sym (unwrapped (bytes_eq command (codes "INF")) (Err denials.Protocol) command)) ∙ is))
users-only kinds.Feature command is =
    by-parts kinds.Feature command refl (inf-first (bytes_eq command (codes "INF")) requests.Nothing command refl
    (ap is_for_users (sym (unwrapped (bytes_eq command (codes "INF")) (Err denials.Protocol) command)) ∙ is))
users-only kinds.Client command is = absurd (false≢true is)
users-only kinds.Info command is = absurd (false≢true is)
users-only kinds.Udp command is = absurd (false≢true is)
users-only kinds.Hub command is = absurd (false≢true (sym (hub-none command) ∙ is))

-- ---- what a line is

-- a line that the entry e owes connection d
pub data Source (setup : Configured) (hash : List ℕ → List ℕ) (h : List Entry) (e : Entry) (d : ℕ) : List ℕ → Type 0 where
  from_support : Source setup hash h e d support_line
  from_identifier : (c : ℕ) → Source setup hash h e d (identifier_line (sid setup hash h c))
  from_hub : (now : ℕ) (features : List (List ℕ)) (topic : List ℕ) → Source setup hash h e d (hub_line setup topic (ping_of (sight_of setup (facts setup hash h)) now features))
  from_topic : (topic : List ℕ) → Source setup hash h e d (topic_line topic)
  from_challenge : Source setup hash h e d (challenge_line (about setup hash h d).sender.challenge)
  from_menu : (item : ConfiguredEntry) → Contains setup.menu item → Source setup hash h e d (menu_line item)
  from_done : Source setup hash h e d done_line
  from_removal : (target operator : ℕ) (seconds : Option ℕ) (reason : List ℕ) → target < sid_count → operator < sid_count
      → Source setup hash h e d (removal_line target operator seconds reason)
  from_status : (line : List ℕ) → IsStatus line → Source setup hash h e d line
  from_quit : (c : ℕ) → Source setup hash h e d (quit_line (sid setup hash h c))
  from_user : (c : ℕ) → stage setup hash h c ≡ stages.Normal → Source setup hash h e d (info_line setup hash h c)
  from_entrant : (c : ℕ) → stage setup hash (e ∷ h) c ≡ stages.Normal → Source setup hash h e d (info_line setup hash (e ∷ h) c)
  from_update : (c : ℕ) (bytes : List ℕ) (now : ℕ) (u : List Field) → e.call ≡ Line c bytes now → stage setup hash h c ≡ stages.Normal → AllByRecursion IsTold u
      → Source setup hash h e d (update_line (sid setup hash h c) u)
  from_message : (c : ℕ) (bytes : List ℕ) (now : ℕ) (message : Reading) → e.call ≡ Line c bytes now → accepted setup hash h c bytes now ≡ Some message → Reads bytes message
      → message.from ≡ Some (sid setup hash h c) → goes_to_users message.kind ≡ true → is_hub_command message.command ≡ false → Source setup hash h e d (with_line_feed bytes)

-- ---- session identifiers are below their count

small-after : {setup : Configured} {hash : List ℕ → List ℕ} {f : Facts} {caller d : ℕ} {call : Call} {a : ConnState} → Becomes setup hash f caller d call a → (f.about d).sender.sid < sid_count
    → a.sender.sid < sid_count
small-after {f = f} (Becomes.joins peer challenge now place is) small = (next_free-range f.last (map (λ c. (f.about c).sender.sid) f.opened)).1
small-after _ small = small

pub small-sid : (setup : Configured) (hash : List ℕ → List ℕ) (h : List Entry) (d : ℕ) → sid setup hash h d < sid_count
unfolding facts
small-sid setup hash [] d = omega arith
small-sid setup hash (e ∷ h) d = small-after (becomes setup hash (facts setup hash h) e.caller d e.call) (small-sid setup hash h d)

-- ---- one line of a connection that does not bring its user in

module _ (setup : Configured) (hash : List ℕ → List ℕ) (h : List Entry) (e : Entry) (d : ℕ) where
  abbrev f : Facts
  f = facts setup hash h

  abbrev Has : List (List ℕ) → Type 0
  Has ls = AllByRecursion (Source setup hash h e d) ls

  of-farewell : (here : Bool) (c : ℕ) → Has (cond here (quit_line (f.about c).sender.sid ∷ []) [])
  of-farewell true c = (from_quit c, tt)
  of-farewell false c = tt

  if-has : (b : Bool) (ls : List (List ℕ)) → (b ≡ true → Has ls) → Has (cond b ls [])
  if-has true ls all = all refl
  if-has false ls all = tt

  menus : (items : List ConfiguredEntry) → AllByRecursion (Contains setup.menu) items → Has (map menu_line items)
  menus [] all = tt
  menus (item ∷ items) all = (from_menu item all.0, menus items all.1)

  -- what an effect of connection c tells it, and tells others
  record Speaks (c : ℕ) (effect : Effect) : Type 0 where
    own : (d == c) ≡ true → Has effect.own
    others : Has effect.others

  abbrev SpeaksOr : ℕ → Effect → Type 0
  SpeaksOr c effect = (is_present (f.about c).stage ≡ false) × (stage_after effect.change (f.about c).stage ≡ stages.Normal) ⊎ Speaks c effect

  unless-empty : (sid : ℕ) (u : List Field) (b : Bool) → Source setup hash h e d (update_line sid u) → Has (if b then [] else update_line sid u ∷ [])
  unless-empty sid u true is = tt
  unless-empty sid u false is = (is, tt)

  statuses : (ls : List (List ℕ)) → AllByRecursion IsStatus ls → Has ls
  statuses ls all = all-as IsStatus (Source setup hash h e d) ls (λ line is. from_status line is) all

  -- the user whom an operator shuts out
  small-target : (nick : List ℕ) (target : Listed) → user_called (sight_of setup f).users nick ≡ Some target → target.sid < sid_count
  small-target nick target called =
      let found = found-here f.about (key_of_points nick) f.present target called in
      subst (λ n. n < sid_count) found.2 (small-sid setup hash h found.0)

  module _ (c : ℕ) (bytes : List ℕ) (now : ℕ) (call : e.call ≡ Line c bytes now) where
    abbrev own : SenderView
    own = own_of (f.about c)

    abbrev line : PreparedLine
    line = prepared_line setup hash (f.about c).sender.challenge bytes

    abbrev said : Option Reading
    said = accepted_line (sight_of setup f) own line now

    -- a message that was sent
    sent : (reading : Reading) → said ≡ Some reading → own.stage ≡ stages.Normal → is_for_users (request_of own.stage reading.kind reading.command) ≡ true
        → Source setup hash h e d (with_line_feed reading.text)
    sent reading is at asks =
        let asks-here : is_for_users (request_of stages.Normal reading.kind reading.command) ≡ true =
        ap (λ (s : Stage). is_for_users (request_of s reading.kind reading.command)) (sym at) ∙ asks in
        let accepts = is-accepted (sight_of setup f) own line now reading is in
        let users = users-only reading.kind reading.command asks-here in
        let same : line.bytes ≡ bytes = prepared-bytes setup hash (f.about c).sender.challenge bytes in
        let reads = Reads-of line.bytes reading accepts.reads in
        subst (λ (text : List ℕ). Source setup hash h e d (with_line_feed text)) (sym (reads.text ∙ same))
        (from_message c bytes now reading call is (subst (λ (bs : List ℕ). Reads bs reading) same reads)
        (from-own (sight_of setup f) own line now reading accepts asks-here) users.kind_is users.command_is)

    does-speak : {act : Act} (done : Done) → Does (sight_of setup f).users f.bans own.sender.sid act done.others done.change → Speaks c (effect_for_all done)
    does-speak done (kicks nick reason target called) =
        record { own = λ same. (from_done, tt); others = (from_removal _ _ _ _ (small-target nick target called) (small-sid setup hash h c), tt) }
    does-speak done (bans_user nick reason target banned called same room) = record {
      own = λ me. (from_done, tt);
      others = (from_removal _ _ _ _ (subst (λ n. n < sid_count) (sym same) (small-target nick target called)) (small-sid setup hash h c), tt);
    }
    does-speak done (silent change is) = record { own = λ same. (from_done, tt); others = tt }
    does-speak done (sets_topic text) = record { own = λ same. (from_done, tt); others = (from_topic text, tt) }

    -- what was read of a line, and what it asks for
    abbrev IsRead : Option Reading → Request → Effect → Type 0
    IsRead saying request effect =
        ((reading : Reading) → saying ≡ Some reading → (said ≡ Some reading) × (request_of own.stage reading.kind reading.command ≡ request))
        × (saying ≡ None → AllByRecursion IsStatus effect.own)

    speaks : {saying : Option Reading} {request : Request} {effect : Effect} → Outcome (sight_of setup f) own line now saying request effect → IsRead saying request effect → SpeaksOr c effect
    speaks quiet reads = inr (record { own = λ same. tt; others = tt })
    speaks (denies deny) reads = inr (record { own = λ same. statuses (denial_line deny ∷ []) (reads.1 refl); others = tt })
    speaks (shuts_out deny) reads = inr (record { own = λ same. statuses (denial_line deny ∷ []) (reads.1 refl); others = of-farewell (is_present own.stage) c })
    speaks (greets reading features at is) reads =
        inr (record { own = λ same. (from_support, (from_identifier c, (from_hub now features f.topic, tt))); others = tt })
    speaks (waits reading u logs account) reads = inr (record {
      own = λ same. subst (λ x. Has (challenge_line (f.about x).sender.challenge ∷ [])) (eqb-true d c same) (from_challenge, tt);
      others = tt;
    })
    speaks (lets_in reading u logs account) reads = inl (ap is_present logs.at, refl)
    speaks (proves reading at asks none) reads = inl (ap is_present at, refl)
    speaks (revises reading u at words none) reads =
        let accepts = is-accepted (sight_of setup f) own line now reading (reads.0 reading refl).0 in
        inr (record {
          own = λ same. tt;
          others = unless-empty own.sender.sid (clean u own.sender.peer) _
              (from_update c bytes now (clean u own.sender.peer) call at (told-clean own.sender.peer line.bytes reading u accepts.reads words));
        })
    speaks (learns reading features at is) reads = inr (record { own = λ same. tt; others = tt })
    speaks (acts reading done at operator asks does) reads = inr (does-speak done does)
    speaks (chats reading at) reads = inr (record { own = λ same. tt; others = tt })
    speaks (searches reading at) reads =
        let read = reads.0 reading refl in inr (record { own = λ same. tt; others = (sent reading read.0 at (ap is_for_users read.1), tt) })
    speaks (passes reading at) reads =
        let read = reads.0 reading refl in inr (record { own = λ same. tt; others = (sent reading read.0 at (ap is_for_users read.1), tt) })
    speaks (ignores reading) reads = inr (record { own = λ same. tt; others = tt })

    line-speaks : SpeaksOr c (effect_of_line setup hash f c bytes now)
    line-speaks =
        speaks (outcome (sight_of setup f) own line now) ((λ reading is. (is, sym (ap (request_in own) is))), refusals-told (sight_of setup f) own line now)

  -- ---- what is shared out

  owes-has : (c : ℕ) (effect : Effect) → Speaks c effect → Has (owes (d == c) effect (f.about d))
  owes-has c effect speaks = all-append _ _ (cond (d == c) effect.own []) (if-has _ effect.others (λ hears. speaks.others)) (if-has (d == c) effect.own speaks.own)

  -- the users who are present, as an entrant is told of them
  users-told : (cs : List ℕ) → ((x : ℕ) → has x cs ≡ true → stage setup hash h x ≡ stages.Normal) → Has (map (info_line setup hash h) cs)
  users-told [] here = tt
  users-told (x ∷ cs) here = (from_user x (here x (head-has x cs)), users-told cs (λ o there. here o (tail-has x o cs there)))

  normal-or-not : (here : Bool) → is_present (stage setup hash h d) ≡ here → (stage setup hash h d ≡ stages.Normal) ⊎ (is_present (stage setup hash h d) ≡ false)
  normal-or-not true is = inl (is-normal (stage setup hash h d) is)
  normal-or-not false is = inr is

  entry-has : (c : ℕ) (bytes : List ℕ) (now : ℕ) → e.call ≡ Line c bytes now → is_present (stage setup hash h c) ≡ false → stage setup hash (e ∷ h) c ≡ stages.Normal → (same : Bool) → (d == c) ≡ same
      → Has (share setup hash f d e.call)
  entry-has c bytes now call absent comes true same =
      subst (λ x. Has (share setup hash f x e.call)) (sym (eqb-true d c same))
      (subst Has (sym (entrants_are_welcomed setup hash h e c (λ is. false≢true (sym absent ∙ ap is_present is)) comes))
      (all-append _ (map (info_line setup hash h) f.present) _ (users-told f.present (λ x there. (present_are_users setup hash h x).0 there))
      (from_entrant c comes, if-has _ _ (λ wants. menus setup.menu (from-all (Contains setup.menu) setup.menu (All-contains_itself setup.menu))))))
  entry-has c bytes now call absent comes false other = by-stage (normal-or-not (is_present (stage setup hash h d)) refl)
    where
      by-stage : (stage setup hash h d ≡ stages.Normal) ⊎ (is_present (stage setup hash h d) ≡ false) → Has (share setup hash f d e.call)
      by-stage (inl here) =
          subst Has (sym (entries_are_heard setup hash h e c d (λ is. false≢true (sym absent ∙ ap is_present is)) comes here)) (from_entrant c comes, tt)
      by-stage (inr away) =
          subst Has (sym (ap (share setup hash f d) call ∙ owes-absent (d == c) (effect_of_line setup hash f c bytes now) (f.about d) other away)) tt

  comes-here : (c : ℕ) (bytes : List ℕ) (now : ℕ) → e.call ≡ Line c bytes now → is_present (f.about c).stage ≡ false
      → stage_after (effect_of_line setup hash f c bytes now).change (f.about c).stage ≡ stages.Normal → stage setup hash (e ∷ h) c ≡ stages.Normal
  comes-here c bytes now call absent is =
      line-stage setup hash h e c bytes now call ∙ own-stage c (effect_of_line setup hash f c bytes now) f (f.about c).stage refl absent ∙ is

  pub share-has : Has (share setup hash f d e.call)
  share-has = by-call e.call refl
    where
      by-call : (call : Call) → e.call ≡ call → Has (share setup hash f d e.call)
      by-call (Join peer challenge now) is = subst (λ call. Has (share setup hash f d call)) (sym is) tt
      by-call (Take c count) is = subst (λ call. Has (share setup hash f d call)) (sym is) tt
      by-call (Quit c) is =
          subst (λ call. Has (share setup hash f d call)) (sym is)
          (owes-has c (departure (f.about c).stage (f.about c).sender.sid) (record { own = λ same. tt; others = of-farewell (is_present (f.about c).stage) c }))
      by-call (Line c bytes now) is = by-speaking c bytes now is (line-speaks c bytes now is)
        where
          by-speaking : (c : ℕ) (bytes : List ℕ) (now : ℕ) → e.call ≡ Line c bytes now → SpeaksOr c (effect_of_line setup hash f c bytes now) → Has (share setup hash f d e.call)
          by-speaking c bytes now is (inl comes) = entry-has c bytes now is comes.0 (comes-here c bytes now is comes.0 comes.1) (d == c) refl
          by-speaking c bytes now is (inr speaks) = subst (λ call. Has (share setup hash f d call)) (sym is) (owes-has c (effect_of_line setup hash f c bytes now) speaks)
