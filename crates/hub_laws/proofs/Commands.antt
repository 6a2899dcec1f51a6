-- The effect of an operator's command is what it asks for.
use Rattle.std.proofs.Common.{◌≡◌, ◌∙◌, sym, ap, ap₂, refl, subst, ℕ, ◌≤◌, Bool, true, false, ◌&&◌, ◌||◌, ◌==◌, eqb, List, [], ◌∷◌, length, map, Option, Some, None, Ok, Err, cond, arith}
use Rattle.std.specs.Prelude.{if◌then◌else◌, codes}
use Rattle.adc_line.proofs.ReadsLemmas.{reading-of}
use Rattle.operator_acts.specs.Acts.{act_at}
use Rattle.operator_acts.specs.Bans.{left_of, left_of_bans}
use Rattle.operator_acts.specs.declared.act.Act.{Act}
use Rattle.operator_acts.proofs.Entries.{ban_on-with_ban, ban_on-without_ban, equal-bytes}
use Rattle.hub_rules.specs.Acts.{answer_of, ban, banned_for, if_present, kick, removal}
use Rattle.hub_laws.proofs.Words.{ConnState, Configured, Done, Effect, Entry, Facts, IsAddressed, Kind, Listed, SenderView, PreparedLine, Reading, HubView, about_after, accepted_effect, about-parts}
use Rattle.hub_laws.proofs.Words.{act_denied, act_effect, after, ban_on, bytes_eq-Decides, cid_in, denial_of, effect_for_all, effect_of_line}
use Rattle.hub_laws.proofs.Words.{eq-eqb, facts, false≢true, happens, has, has_key, is_command, is_full, is_operator, is_present, key_in, key_of_points, listed_user}
use Rattle.hub_laws.proofs.Words.{most_users, or-true, own_of, prepared_line, present_are_users, request_at, request_denied, request_of, sight_of, text_in}
use Rattle.hub_laws.proofs.Words.{user_by_key, user_called, user_of}
use Rattle.hub_laws.proofs.Words.{Ban, eqb-true, is_removed, stage_next, with_ban, without_ban}
use Rattle.hub_laws.proofs.Words.denials
use Rattle.hub_laws.proofs.Words.kinds
use Rattle.hub_laws.proofs.Words.lines
use Rattle.hub_laws.proofs.Words.requests
use Rattle.hub_laws.proofs.Words.seats
use Rattle.hub_laws.proofs.Words.shared
use Rattle.hub_laws.proofs.Words.stages
use Rattle.hub_laws.specs.Commands.{BansAreCarriedOut, Commands, IsPresentAs, KicksAreCarriedOut, TopicsAreCarriedOut, UnbansAreCarriedOut}
use Rattle.hub_laws.proofs.Apart.{nicks_differ}
use Rattle.hub_laws.proofs.FreeNames.{listed-cid}
use Rattle.hub_laws.proofs.Messages.{some-read}
use Rattle.hub_laws.proofs.Routes.{line-heard}
use Rattle.hub_laws.proofs.AccountPasswords.{prepared-bytes}
use Rattle.hub_invariants.proofs.Suits.{listed-sid}

-- ---- a command that is carried out

hub-from : (kind : Kind) (ws : List (List ℕ)) (from target : Option ℕ) (features : Option (List ℕ)) → kind ≡ kinds.Hub → IsAddressed kind ws from target features → from ≡ None
hub-from kind ws from target features is says = (subst (λ k. IsAddressed k ws from target features) is says).1

hub-asks : (kind : Kind) (command : List ℕ) → kind ≡ kinds.Hub → command ≡ codes "MSG" → request_at stages.Normal kind command ≡ Ok requests.Act
unfolding request_at
hub-asks kind command is-kind is-command = ap₂ (request_at stages.Normal) is-kind is-command

record IsAsked (hub : HubView) (own : SenderView) (now : ℕ) (line : Reading) (act : Act) : Type 0 where
  at : own.stage ≡ stages.Normal
  operator : is_operator hub own ≡ true
  from : line.from ≡ None
  asks : request_at stages.Normal line.kind line.command ≡ Ok requests.Act
  begins : is_command (text_in line.params) ≡ true
  reads : act_at (text_in line.params) ≡ Some act

act-allowed : (hub : HubView) (own : SenderView) (now : ℕ) (line : Reading) (act : Act) (done : Done) → IsAsked hub own now line act → answer_of hub.users hub.bans own.sender.sid now act ≡ Ok done
    → act_denied hub own now line.params ≡ None
unfolding act_denied
act-allowed hub own now line act done asked answers = grind arith

act-does : (hub : HubView) (own : SenderView) (now : ℕ) (line : Reading) (act : Act) (done : Done) → IsAsked hub own now line act → answer_of hub.users hub.bans own.sender.sid now act ≡ Ok done
    → act_effect hub own now line.params ≡ effect_for_all done
unfolding act_effect
act-does hub own now line act done asked answers = grind arith

denied-none : (hub : HubView) (own : SenderView) (prepared : PreparedLine) (now : ℕ) (line : Reading) → own.stage ≡ stages.Normal → line.from ≡ None
    → request_at stages.Normal line.kind line.command ≡ Ok requests.Act → act_denied hub own now line.params ≡ None → denial_of hub own prepared now line ≡ None
unfolding request_denied
denied-none hub own prepared now line at from asks allowed = grind arith

act-accepted : (hub : HubView) (own : SenderView) (prepared : PreparedLine) (now : ℕ) (line : Reading) → request_at stages.Normal line.kind line.command ≡ Ok requests.Act
    → accepted_effect hub own prepared now line (request_of stages.Normal line.kind line.command) ≡ act_effect hub own now line.params
unfolding accepted_effect
act-accepted hub own prepared now line asks = grind arith

module _ {setup : Configured} {hash : List ℕ → List ℕ} {h : List Entry} {e : Entry} {now : ℕ} {act : Act} (c : Commands setup hash h e now act) where
  abbrev f : Facts
  f = facts setup hash h

  abbrev hub : HubView
  hub = sight_of setup f

  abbrev own : SenderView
  own = own_of (f.about c.operator)

  abbrev prepared : PreparedLine
  prepared = prepared_line setup hash (f.about c.operator).sender.challenge c.bytes

  asked : IsAsked hub own now c.line act
  asked = record {
    at = c.present;
    operator = c.operates;
    from = hub-from c.line.kind c.grammar.addresses c.line.from c.line.target c.line.features c.kind c.grammar.addressed;
    asks = hub-asks c.line.kind c.line.command c.kind c.command;
    begins = c.begins;
    reads = c.asks;
  }

  effect-is : (done : Done) → answer_of hub.users hub.bans own.sender.sid now act ≡ Ok done → effect_of_line setup hash f c.operator c.bytes now ≡ effect_for_all done
  effect-is done answers =
      let same = prepared-bytes setup hash (f.about c.operator).sender.challenge c.bytes in
      let a = asked in
      line-heard hub own prepared now c.line c.present (ap (λ (bs : List ℕ). length bs == 0) same ∙ some-read c.bytes c.line c.grammar)
      (ap lines.reading same ∙ reading-of c.bytes c.line c.grammar)
      (denied-none hub own prepared now c.line a.at a.from a.asks (act-allowed hub own now c.line act done a answers))
      ∙ act-accepted hub own prepared now c.line a.asks ∙ act-does hub own now c.line act done a answers

  step : (done : Done) → answer_of hub.users hub.bans own.sender.sid now act ≡ Ok done → facts setup hash (e ∷ h) ≡ happens c.operator (effect_for_all done) f
  unfolding facts after
  step done answers = ap (after setup hash f e.caller) c.call ∙ ap (λ effect. happens c.operator effect f) (effect-is done answers)

-- ---- whom a nick names

record IsFound (about : ℕ → ConnState) (key : List ℕ) (cs : List ℕ) : Type 0 where
  one : ℕ
  there : has one cs ≡ true
  found : user_by_key key (map (user_of about) cs) ≡ Some (user_of about one)
  named : has_key key (user_of about one) ≡ true

found-next : (about : ℕ → ConnState) (key : List ℕ) (x : ℕ) (cs : List ℕ) (here : Bool) → has_key key (user_of about x) ≡ here → (here ≡ false → IsFound about key cs) → IsFound about key (x ∷ cs)
found-next about key x cs true is later =
    record { one = x; there = ap (λ b. b || has x cs) (eq-eqb x x refl); found = ap (λ b. if b then Some (user_of about x) else user_by_key key (map (user_of about) cs)) is; named = is }
found-next about key x cs false is later =
    let rest = later refl in
    record {
      one = rest.one;
      there = ap (λ b. eqb x rest.one || b) rest.there ∙ or-true (eqb x rest.one);
      found = ap (λ b. if b then Some (user_of about x) else user_by_key key (map (user_of about) cs)) is ∙ rest.found;
      named = rest.named;
    }

not-here : (same : Bool) (rest : Bool) → (same || rest) ≡ true → same ≡ false → rest ≡ true
not-here same rest is none = grind arith

is-found : (about : ℕ → ConnState) (key : List ℕ) (cs : List ℕ) (d : ℕ) → has d cs ≡ true → has_key key (user_of about d) ≡ true → IsFound about key cs
is-found about key [] d there named = absurd (false≢true there)
is-found about key (x ∷ cs) d there named =
    found-next about key x cs (has_key key (user_of about x)) refl
    (λ none. is-found about key cs d (not-here (eqb x d) (has d cs) there (other x (eqb x d) refl none)) named)
  where
    other : (x : ℕ) (same : Bool) → eqb x d ≡ same → has_key key (user_of about x) ≡ false → same ≡ false
    other x same is none = grind (arith, eqb-true)

key-user : (about : ℕ → ConnState) (key : List ℕ) (d : ℕ) → key_in (about d).fields ≡ key → has_key key (user_of about d) ≡ true
unfolding listed_user
key-user about key d is = (bytes_eq-Decides _ _).1 is

user-key : (about : ℕ → ConnState) (key : List ℕ) (d : ℕ) → has_key key (user_of about d) ≡ true → key_in (about d).fields ≡ key
unfolding listed_user
user-key about key d is = (bytes_eq-Decides _ _).0 is

called : (setup : Configured) (hash : List ℕ → List ℕ) (h : List Entry) (d : ℕ) (nick : List ℕ) → setup.plain.max_users ≤ most_users → IsPresentAs setup hash h d nick
    → user_called (map (user_of (facts setup hash h).about) (facts setup hash h).present) nick ≡ Some (user_of (facts setup hash h).about d)
called setup hash h d nick small named =
    let f : Facts = facts setup hash h in
    let key : List ℕ = key_of_points nick in
    let there : has d f.present ≡ true = (present_are_users setup hash h d).1 named.0 in
    let found = is-found f.about key f.present d there (key-user f.about key d named.1) in
    found.found
    ∙ ap (λ x. Some (user_of f.about x)) (nicks_differ setup hash h small found.one d found.there there (user-key f.about key found.one found.named ∙ sym named.1))

-- ---- each command

shut-out : (c d : ℕ) (effect : Effect) (f : Facts) → (f.about d).stage ≡ stages.Normal → is_removed effect.change (f.about d).sender.sid ≡ true → (about_after c effect f.about d).stage ≡ stages.Gone
shut-out c d effect f here removed =
    ap (λ (a : ConnState). a.stage) (about-parts c effect f.about d) ∙ ap₂ (λ s b. stage_next (is_present s && b) (d == c) effect.change s) here removed

held-now : (bans : List (List ℕ × Ban)) (cid : List ℕ) (held : Ban) → ban_on (with_ban bans cid held) cid ≡ Some held
held-now bans cid held = ban_on-with_ban bans cid held cid ∙ ap (λ b. cond b (Some held) (ban_on bans cid)) (equal-bytes cid cid ∙ (bytes_eq-Decides cid cid).1 refl)

free-now : (bans : List (List ℕ × Ban)) (cid : List ℕ) → ban_on (without_ban bans cid) cid ≡ None
free-now bans cid = ban_on-without_ban bans cid cid ∙ ap (λ b. cond b None (ban_on bans cid)) (equal-bytes cid cid ∙ (bytes_eq-Decides cid cid).1 refl)

pub kicks_are_carried_out : KicksAreCarriedOut
unfolding happens
kicks_are_carried_out setup hash h e d now nick reason small asks named =
    let f : Facts = facts setup hash h in
    let user : Listed = user_of f.about d in
    let done : Done = record { others = _; change = shared.At user.sid seats.Gone } in
    ap (λ (g : Facts). (g.about d).stage)
    (step asks done (ap (λ found. if_present found (kick (f.about asks.operator).sender.sid reason)) (called setup hash h d nick small named)))
    ∙ shut-out asks.operator d (effect_for_all done) f named.0 (eq-eqb (f.about d).sender.sid user.sid (sym (listed-sid (f.about d).sender.sid (f.about d).fields)))

pub bans_are_carried_out : BansAreCarriedOut
unfolding happens left_of_bans
bans_are_carried_out setup hash h e d now nick seconds reason small asks named room =
    let f : Facts = facts setup hash h in
    let user : Listed = user_of f.about d in
    let done : Done = removal (f.about asks.operator).sender.sid reason (banned_for seconds now user) in
    let cid : user.cid ≡ cid_in (f.about d).fields = listed-cid (f.about d).sender.sid (f.about d).fields in
    let goes = step asks done
    (ap (λ found. if_present found (λ target. ban f.bans (f.about asks.operator).sender.sid reason (banned_for seconds now target))) (called setup hash h d nick small named)
    ∙ ap (λ b. if b then Err denials.BansFull else Ok done) (ap (is_full f.bans) cid ∙ room)) in (
      ap (λ (g : Facts). (g.about d).stage) goes
          ∙ shut-out asks.operator d (effect_for_all done) f named.0 (eq-eqb (f.about d).sender.sid user.sid (sym (listed-sid (f.about d).sender.sid (f.about d).fields))),
      λ moment. ap (λ (g : Facts). left_of (ban_on g.bans (cid_in (f.about d).fields)) moment) goes
          ∙ ap (λ (key : List ℕ). left_of (ban_on (with_ban f.bans key (record { seconds = seconds; moment = now })) (cid_in (f.about d).fields)) moment) cid
          ∙ ap (λ b. left_of b moment) (held-now f.bans (cid_in (f.about d).fields) (record { seconds = seconds; moment = now })),
    )

pub unbans_are_carried_out : UnbansAreCarriedOut
unfolding happens left_of_bans
unbans_are_carried_out setup hash h e now cid asks held moment =
    let f : Facts = facts setup hash h in
    let done : Done = record { others = []; change = shared.Unban cid } in
    ap (λ (g : Facts). left_of (ban_on g.bans cid) moment) (step asks done (ap (λ b. if b then Ok done else Err denials.NoBan) held))
    ∙ ap (λ b. left_of b moment) (free-now f.bans cid)

pub topics_are_carried_out : TopicsAreCarriedOut
unfolding happens
topics_are_carried_out setup hash h e now text asks =
    let done : Done = record { others = _; change = shared.Topic text } in ap (λ (g : Facts). g.topic) (step asks done refl)
