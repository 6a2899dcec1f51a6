-- The lines owed by a kick or a ban, where its line stands, and when the nick is another's.
use Rattle.std.proofs.Common.{◌≡◌, ◌∙◌, sym, ap, refl, subst, ℕ, ◌≤◌, Bool, true, false, ◌⊎◌, inl, inr, ◌==◌, List, [], ◌∷◌, ◌++◌, map, append-nil, append_assoc, Option, Some, arith}
use Rattle.hub_invariants.specs.Promises.{is_in}
use Rattle.hub_laws.proofs.Words.{ConnState, Act, Ban, Call, Change, Configured, Does, Done, Effect, Entry, Facts, Hub, HubChange, Line, Listed, Outcome, SenderView, PreparedLine, Reading, Request, HubView, Stage}
use Rattle.hub_laws.proofs.Words.{acts, after, all_fit, bans_user, bytes_eq, bytes_eq-Decides, change_of, cond, done_line, effect_for_all, eq-eqb, eqb-true, facts, false≢true, happens, has_key}
use Rattle.hub_laws.proofs.Words.{if◌then◌else◌, info, is-normal, is_present, is_removed, key_in, key_of_points, kicks, lags, line-outcome, lines_owed, listed-sid, most_users, or-true}
use Rattle.hub_laws.proofs.Words.{present_are_users, removal_line, share, sid, silent, silent-keeps, stage, user_by_key, user_called, user_of}
use Rattle.hub_laws.proofs.Words.stages
use Rattle.hub_laws.specs.SenderOrder.{lines_added}
use Rattle.hub_laws.specs.Removals.{HasNick, NamesakesComeLater, OnlyUsersAreRemoved, RemovalsAreHeard, RemovalsComeFirst, Removes, TakesNick, seconds_of}
use Rattle.hub_laws.specs.OperatorActs.{news_of, reason_of}
use Rattle.hub_laws.proofs.Apart.{nicks_differ}
use Rattle.hub_laws.proofs.Lag.{lag_is_the_first}
use Rattle.hub_laws.proofs.SenderOrder.{added-is, not-false, owed_grows}
use Rattle.hub_laws.proofs.OperatorActs.{acts_are_heard}

-- ---- who is told

-- what removes somebody is an operator's act
act-of : (change : Change) (own : ℕ) → is_removed change own ≡ true → (act : HubChange) × (change ≡ Hub act)
act-of change own named = grind arith

news-by : (change : Change) (act : HubChange) (own operator : ℕ) (reason : List ℕ) → change ≡ Hub act → is_removed change own ≡ true
    → news_of act operator reason ≡ removal_line own operator (seconds_of change) reason ∷ []
news-by change act own operator reason is named = grind arith

pub removals_are_heard : RemovalsAreHeard
removals_are_heard setup hash h e c removes =
    let change : Change = change_of setup hash (facts setup hash h) e.call in
    let act = act-of change (sid setup hash h c) removes.named in
    let told = acts_are_heard setup hash h e act.0 act.1 in (
      told.0,
      told.1,
      told.2,
      λ d here. told.3 d
          ∙ ap (λ (s : Stage). cond (is_present s) (news_of act.0 (sid setup hash h told.0) (reason_of told.1)) [] ++ cond (d == told.0) (done_line ∷ []) []) here
          ∙ ap (λ ls. ls ++ cond (d == told.0) (done_line ∷ []) []) (news-by change act.0 (sid setup hash h c) (sid setup hash h told.0) (reason_of told.1) act.1 removes.named),
    )

-- ---- where it stands

module _ (setup : Configured) (hash : List ℕ → List ℕ) where
  grows-on : (later h : List Entry) (d : ℕ) → (rest : List (List ℕ)) × (lines_owed setup hash (later ++ h) d ≡ lines_owed setup hash h d ++ rest)
  grows-on [] h d = ([], sym (append-nil (lines_owed setup hash h d)))
  grows-on (e ∷ later) h d =
      let before = grows-on later h d in
      let more : List (List ℕ) = lines_added setup hash (later ++ h) e d in
      (before.0 ++ more, owed_grows setup hash (later ++ h) e d ∙ ap (λ ls. ls ++ more) before.1 ∙ append_assoc (lines_owed setup hash h d) before.0 more)

  -- who does not lag was owed what the last entry owed it
  owed-last : (h : List Entry) (e : Entry) (d : ℕ) → lags setup hash (e ∷ h) d ≡ false
      → lines_owed setup hash (e ∷ h) d ≡ lines_owed setup hash h d ++ share setup hash (facts setup hash h) d e.call
  owed-last h e d fine =
      owed_grows setup hash h e d
      ∙ ap (λ ls. lines_owed setup hash h d ++ ls)
      (added-is setup hash h e d
      ∙ ap (λ b. cond b (share setup hash (facts setup hash h) d e.call) []) (not-false (all_fit setup hash (e ∷ h) d) (sym (lag_is_the_first setup hash (e ∷ h) d) ∙ fine)))

pub removals_come_first : RemovalsComeFirst
removals_come_first setup hash later earlier e c d removes here fine =
    let told = removals_are_heard setup hash earlier e c removes in
    let on = grows-on setup hash later (e ∷ earlier) d in (
      told.0,
      told.1,
      on.0,
      told.2,
      on.1 ∙ ap (λ ls. ls ++ on.0) (owed-last setup hash earlier e d fine ∙ ap (λ ls. lines_owed setup hash earlier d ++ ls) (told.3 d here)),
    )

-- ---- who is named

found-by : (same : Bool) (user target : Listed) (more : Option Listed) → (if same then Some user else more) ≡ Some target → (user ≡ target) ⊎ (more ≡ Some target)
found-by same user target more is = grind arith

-- one of these connections has a user with this identifier
abbrev pub HasUser : (ℕ → ConnState) → List ℕ → ℕ → Type 0
HasUser about cs named = (c : ℕ) × (is_in c cs ≡ true) × ((about c).sender.sid ≡ named)

first-or-later : (about : ℕ → ConnState) (c : ℕ) (cs : List ℕ) (target : Listed) (more : Option Listed) → (more ≡ Some target → HasUser about cs target.sid)
    → (user_of about c ≡ target) ⊎ (more ≡ Some target) → HasUser about (c ∷ cs) target.sid
first-or-later about c cs target more later either = grind (arith, eq-eqb, listed-sid, or-true)

pub found-here : (about : ℕ → ConnState) (key : List ℕ) (cs : List ℕ) (target : Listed) → user_by_key key (map (user_of about) cs) ≡ Some target → HasUser about cs target.sid
found-here about key [] target is = let nothing : ⊥ = cc is in absurd nothing
found-here about key (c ∷ cs) target is =
    first-or-later about c cs target (user_by_key key (map (user_of about) cs)) (found-here about key cs target)
    (found-by (has_key key (user_of about c)) (user_of about c) target (user_by_key key (map (user_of about) cs)) is)

-- a user of the hub whom an effect removes
abbrev NamesUser : List Listed → Effect → Type 0
NamesUser users effect =
    (named : ℕ) → is_removed effect.change named ≡ true → (target : Listed) × (nick : List ℕ) × (user_called users nick ≡ Some target) × (target.sid ≡ named)

names-act : {users : List Listed} {bans : List (List ℕ × Ban)} {operator : ℕ} {act : Act} (done : Done) → Does users bans operator act done.others done.change → NamesUser users (effect_for_all done)
names-act done (kicks nick reason target called) named is = (target, nick, called, sym (eqb-true named target.sid is))
names-act done (bans_user nick reason target banned called same room) named is = (target, nick, called, sym same ∙ sym (eqb-true named banned.sid is))
names-act done (silent change quiet) named is = absurd (false≢true (sym (silent-keeps change named quiet) ∙ is))
names-act done _ named is = absurd (false≢true is)

module _ {hub : HubView} {own : SenderView} {line : PreparedLine} {now : ℕ} where
  names : {said : Option Reading} {request : Request} {effect : Effect} → Outcome hub own line now said request effect → NamesUser hub.users effect
  names (acts reading done at operator asks does) named is = names-act done does named is
  names _ named is = absurd (false≢true is)

call-names : (setup : Configured) (hash : List ℕ → List ℕ) (f : Facts) (call : Call) (named : ℕ) → is_removed (change_of setup hash f call) named ≡ true
    → HasUser f.about f.present named
call-names setup hash f (Line o bytes now) named is =
    let user = names (line-outcome setup hash f o bytes now) named is in
    subst (HasUser f.about f.present) user.3 (found-here f.about (key_of_points user.1) f.present user.0 user.2)
call-names setup hash f _ named is = absurd (false≢true is)

pub only_users_are_removed : OnlyUsersAreRemoved
only_users_are_removed setup hash h e named is =
    let user = call-names setup hash (facts setup hash h) e.call named is in (
      user.0,
      record {
        present = (present_are_users setup hash h user.0).0 user.1;
        named = ap (is_removed (change_of setup hash (facts setup hash h) e.call)) user.2 ∙ is;
      },
      user.2,
    )

-- ---- an operator's line leaves its own connection as it is

-- what was so of a user before the removal who is present after it
record Remains (f g : Facts) (c n : ℕ) : Type 0 where
  here : (f.about n).stage ≡ stages.Normal
  fields : (g.about n).fields ≡ (f.about n).fields
  other : n ≡ c → ⊥

effect-remains : (o : ℕ) (effect : Effect) (f : Facts) (c n : ℕ) → (f.about c).stage ≡ stages.Normal → is_removed effect.change (f.about c).sender.sid ≡ true
    → ((happens o effect f).about n).stage ≡ stages.Normal → Remains f (happens o effect f) c n
unfolding happens
effect-remains o effect f c n present named is = grind arith

module _ (setup : Configured) (hash : List ℕ → List ℕ) where
  call-remains : (f : Facts) (caller : ℕ) (call : Call) (c n : ℕ) → (f.about c).stage ≡ stages.Normal → is_removed (change_of setup hash f call) (f.about c).sender.sid ≡ true
      → ((after setup hash f caller call).about n).stage ≡ stages.Normal → Remains f (after setup hash f caller call) c n
  unfolding after
  call-remains f caller call c n present named is = grind (arith, effect-remains)

  remains : (h : List Entry) (e : Entry) (c n : ℕ) → Removes setup hash h e c → stage setup hash (e ∷ h) n ≡ stages.Normal
      → Remains (facts setup hash h) (facts setup hash (e ∷ h)) c n
  unfolding facts
  remains h e c n removes is = call-remains (facts setup hash h) e.caller e.call c n removes.present removes.named is

  nobody-has : (h : List Entry) (e : Entry) (c n : ℕ) → setup.plain.max_users ≤ most_users → Removes setup hash h e c → HasNick setup hash (e ∷ h) n (key_in (info setup hash h c)) → ⊥
  nobody-has h e c n small removes has =
      let was = remains h e c n removes has.0 in
      was.other
      (nicks_differ setup hash h small n c ((present_are_users setup hash h n).1 was.here) ((present_are_users setup hash h c).1 removes.present)
      (sym (ap key_in was.fields) ∙ has.1))

  -- ---- who has the nick later

  has-by : (stage : Stage) (own key : List ℕ) (here same : Bool) → is_present stage ≡ here → bytes_eq own key ≡ same
      → ((stage ≡ stages.Normal) × (own ≡ key)) ⊎ ((stage ≡ stages.Normal) × (own ≡ key) → ⊥)
  has-by stage own key here same is-here is-same = grind (arith, is-normal, bytes_eq-Decides)

  one-more : (x : Entry) (later h : List Entry) (n : ℕ) (key : List ℕ) → TakesNick setup hash later h n key → TakesNick setup hash (x ∷ later) h n key
  one-more x later h n key took = record {
    after = x ∷ took.after;
    entry = took.entry;
    between = took.between;
    splits = ap (λ es. x ∷ es) took.splits;
    before = took.before;
    takes = took.takes;
  }

  takes-by : (x : Entry) (later h : List Entry) (n : ℕ) (key : List ℕ) → (HasNick setup hash (later ++ h) n key → TakesNick setup hash later h n key)
      → HasNick setup hash (x ∷ later ++ h) n key → HasNick setup hash (later ++ h) n key ⊎ (HasNick setup hash (later ++ h) n key → ⊥) → TakesNick setup hash (x ∷ later) h n key
  takes-by x later h n key earlier has (inl had) = one-more x later h n key (earlier had)
  takes-by x later h n key earlier has (inr new) = record { after = []; entry = x; between = later; splits = refl; before = new; takes = has }

  takes-nick : (later h : List Entry) (n : ℕ) (key : List ℕ) → (HasNick setup hash h n key → ⊥) → HasNick setup hash (later ++ h) n key → TakesNick setup hash later h n key
  takes-nick [] h n key none has = absurd (none has)
  takes-nick (x ∷ later) h n key none has =
      takes-by x later h n key (takes-nick later h n key none) has
      (has-by (stage setup hash (later ++ h) n) (key_in (info setup hash (later ++ h) n)) key _ _ refl refl)

pub namesakes_come_later : NamesakesComeLater
namesakes_come_later setup hash later earlier e c n small removes has = grind (arith, takes-nick, nobody-has)
