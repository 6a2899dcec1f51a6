-- The lines that tell of no user who enters, changes or leaves; and what each line of a connection tells.
use Rattle.std.proofs.Common.{◌≡◌, ◌∙◌, sym, ap, refl, subst, ℕ, Bool, true, false, ◌==◌, List, [], ◌∷◌, ◌++◌, map, take, drop, Option, Some, None, Ok, cond, arith}
use Rattle.std.specs.Prelude.{codes}
use Rattle.std.specs.List.{join_with_byte}
use Rattle.adc_line.specs.Grammar.{IsCommand, Reads}
use Rattle.adc_line.specs.Header.{letter}
use Rattle.adc_line.specs.Words.{blank}
use Rattle.login_state.specs.Denials.{denial_line, denial_text}
use Rattle.hub_rules.specs.Configured.{Configured, ConfiguredEntry}
use Rattle.hub_rules.specs.Texts.{challenge_line, done_line, hub_line, identifier_line, menu_line, support_line, topic_line}
use Rattle.hub_laws.proofs.Words.{Act, AllByRecursion, Deny, Does, Effect, Field, Hub, HubChange, Kind, Listed, Others, Outcome, SenderView, PreparedLine, Reading, Reads-of, Request, Sender, HubView, Stage, Those}
use Rattle.hub_laws.proofs.Words.{Done, effect_for_all, eq-eqb, user_called, acts, bans_user, bytes_eq, bytes_eq-Decides, chats, clean, denies, enters, false≢true, farewell, fields_after, greets, has_feature, ignores, is_present, is_removed, kicks}
use Rattle.hub_laws.proofs.Words.{learns, lets_in, line_effect, line_of, line_unless_empty, listed_user, merged_with, outcome, passes, proves, quiet, removal_line, request_at, request_in, request_of, revises, searches, sets_topic, shuts_out}
use Rattle.hub_laws.proofs.Words.{silent, silent-keeps, stage_after, ucmd, waits, with_line_feed}
use Rattle.hub_laws.proofs.Words.audiences
use Rattle.hub_laws.proofs.Words.kinds
use Rattle.hub_laws.proofs.Words.lines
use Rattle.hub_laws.proofs.Words.requests
use Rattle.hub_laws.proofs.Words.senders
use Rattle.hub_laws.proofs.Words.seats
use Rattle.hub_laws.proofs.Words.shared
use Rattle.hub_laws.proofs.Words.stages
use Rattle.hub_laws.proofs.Fields.{told-clean}
use Rattle.hub_laws.proofs.Pieces.{IsOther, IsSolid, IsTold, is_gap, letter-digit-solid, letter-solid}
use Rattle.hub_laws.proofs.SenderOrder.{is-accepted}
use Rattle.hub_laws.proofs.Welcome.{line_by}

abbrev pub AreOthers : List (List ℕ) → Type 0
AreOthers lines = AllByRecursion IsOther lines

no-such : (word other : List ℕ) → bytes_eq word other ≡ false → word ≡ other → ⊥
no-such word other apart is = false≢true (sym apart ∙ (bytes_eq-Decides word other).1 is)

starting : (a b c d : ℕ) (rest line : List ℕ) → line ≡ a ∷ b ∷ c ∷ d ∷ rest → IsSolid (a ∷ b ∷ c ∷ d ∷ []) → bytes_eq (a ∷ b ∷ c ∷ d ∷ []) (codes "BINF") ≡ false
    → bytes_eq (a ∷ b ∷ c ∷ d ∷ []) (codes "IQUI") ≡ false → IsOther line
starting a b c d rest line is solid no-entry no-leave = record {
  a = a;
  b = b;
  c = c;
  d = d;
  rest = rest;
  is = is;
  solid = solid;
  no_entry = no-such (a ∷ b ∷ c ∷ d ∷ []) (codes "BINF") no-entry;
  no_leave = no-such (a ∷ b ∷ c ∷ d ∷ []) (codes "IQUI") no-leave;
}

-- ---- lines of the hub

other-support : IsOther support_line
unfolding support_line
other-support = starting 73 83 85 80 _ _ refl (refl, (refl, (refl, (refl, tt)))) refl refl

other-identifier : (sid : ℕ) → IsOther (identifier_line sid)
unfolding identifier_line
other-identifier sid = starting 73 83 73 68 _ _ refl (refl, (refl, (refl, (refl, tt)))) refl refl

other-hub : (setup : Configured) (topic ping : List ℕ) → IsOther (hub_line setup topic ping)
unfolding hub_line
other-hub setup topic ping = starting 73 73 78 70 _ _ refl (refl, (refl, (refl, (refl, tt)))) refl refl

other-topic : (topic : List ℕ) → IsOther (topic_line topic)
unfolding topic_line
other-topic topic = starting 73 73 78 70 _ _ refl (refl, (refl, (refl, (refl, tt)))) refl refl

other-challenge : (challenge : List ℕ) → IsOther (challenge_line challenge)
unfolding challenge_line
other-challenge challenge = starting 73 71 80 65 _ _ refl (refl, (refl, (refl, (refl, tt)))) refl refl

pub other-menu : (entry : ConfiguredEntry) → IsOther (menu_line entry)
unfolding menu_line
other-menu entry = starting 73 67 77 68 _ _ refl (refl, (refl, (refl, (refl, tt)))) refl refl

other-done : IsOther done_line
unfolding done_line
other-done = starting 73 83 84 65 _ _ refl (refl, (refl, (refl, (refl, tt)))) refl refl

by-four : (text : List ℕ) → take 4 text ≡ codes "ISTA" → text ≡ 73 ∷ 83 ∷ 84 ∷ 65 ∷ drop 4 text
by-four text is = grind arith

first-four : (deny : Deny) → take 4 (denial_text deny) ≡ codes "ISTA"
unfolding denial_text
first-four deny = grind arith

pub status : (deny : Deny) → denial_text deny ≡ 73 ∷ 83 ∷ 84 ∷ 65 ∷ drop 4 (denial_text deny)
status deny = by-four (denial_text deny) (first-four deny)

other-denial : (deny : Deny) → IsOther (denial_line deny)
other-denial deny =
    starting 73 83 84 65 _ (denial_line deny) (ap (λ (text : List ℕ). text ++ 10 ∷ []) (status deny)) (refl, (refl, (refl, (refl, tt)))) refl refl

-- ---- messages of users

abbrev pub is_for_users : Request → Bool
is_for_users requests.Message = true
is_for_users requests.Search = true
is_for_users request = false

-- a message to users is no BINF, and of no type of the hub's
record IsTalk (kind : Kind) (command : List ℕ) : Type 0 where
  no_entry : letter kind ≡ 66 → command ≡ codes "INF" → ⊥
  no_hub : letter kind ≡ 73 → ⊥

apart : (n m : ℕ) → (n == m) ≡ false → n ≡ m → ⊥
apart n m differ is = false≢true (sym differ ∙ ap (λ x. x == m) is ∙ eq-eqb m m refl)

talk : (kind : Kind) (command : List ℕ) → is_for_users (request_of stages.Normal kind command) ≡ true → IsTalk kind command
unfolding request_at
talk kinds.Broadcast command asks = record {
  no_entry = λ same is. false≢true (ap (λ (w : List ℕ). is_for_users (request_of stages.Normal kinds.Broadcast w)) (sym is) ∙ asks);
  no_hub = apart 66 73 refl;
}
talk kinds.Info command asks = absurd (false≢true asks)
talk kinds.Direct command asks = record { no_entry = λ same is. apart 68 66 refl same; no_hub = apart 68 73 refl }
talk kinds.Echo command asks = record { no_entry = λ same is. apart 69 66 refl same; no_hub = apart 69 73 refl }
talk kinds.Feature command asks = record { no_entry = λ same is. apart 70 66 refl same; no_hub = apart 70 73 refl }
talk kinds.Hub command asks = record { no_entry = λ same is. apart 72 66 refl same; no_hub = apart 72 73 refl }
talk kinds.Client command asks = record { no_entry = λ same is. apart 67 66 refl same; no_hub = apart 67 73 refl }
talk kinds.Udp command asks = record { no_entry = λ same is. apart 85 66 refl same; no_hub = apart 85 73 refl }

pub letter-of : (kind : Kind) → is_gap (letter kind) ≡ false
letter-of kinds.Broadcast = refl
letter-of kinds.Info = refl
letter-of kinds.Direct = refl
letter-of kinds.Echo = refl
letter-of kinds.Feature = refl
letter-of kinds.Hub = refl
letter-of kinds.Client = refl
letter-of kinds.Udp = refl

joined-four : (a b c d : ℕ) (ws : List (List ℕ)) → (rest : List ℕ) × (join_with_byte blank ((a ∷ b ∷ c ∷ d ∷ []) ∷ ws) ++ 10 ∷ [] ≡ a ∷ b ∷ c ∷ d ∷ rest)
joined-four a b c d [] = (10 ∷ [], refl)
joined-four a b c d (w ∷ ws) = (_, refl)

first-of : (a b c d w x y z : ℕ) → (a ∷ b ∷ c ∷ d ∷ []) ≡ (w ∷ x ∷ y ∷ z ∷ []) → (a ≡ w) × ((b ∷ c ∷ d ∷ []) ≡ (x ∷ y ∷ z ∷ []))
first-of a b c d w x y z is = grind arith

other-talk : (kind : Kind) (command : List ℕ) (ws : List (List ℕ)) → IsTalk kind command → IsCommand command → IsOther (join_with_byte blank ((letter kind ∷ command) ∷ ws) ++ 10 ∷ [])
other-talk kind command ws is-talk is =
    let a : ℕ = is.0 in
    let b : ℕ = is.1 in
    let c : ℕ = is.2 in
    let four = joined-four (letter kind) a b c ws in
    record {
      a = letter kind;
      b = a;
      c = b;
      d = c;
      rest = four.0;
      is = ap (λ (name : List ℕ). join_with_byte blank ((letter kind ∷ name) ∷ ws) ++ 10 ∷ []) is.3 ∙ four.1;
      solid = (letter-of kind, (letter-solid a is.4, (letter-digit-solid b is.5, (letter-digit-solid c is.6, tt))));
      no_entry = λ same. let parts = first-of (letter kind) a b c 66 73 78 70 same in is-talk.no_entry parts.0 (is.3 ∙ parts.1);
      no_leave = λ same. is-talk.no_hub (first-of (letter kind) a b c 73 81 85 73 same).0;
    }

other-message : (bytes : List ℕ) (line : Reading) → lines.reading bytes ≡ Ok line → is_for_users (request_of stages.Normal line.kind line.command) ≡ true → IsOther (with_line_feed line.text)
other-message bytes line reads asks =
    let is : Reads bytes line = Reads-of bytes line reads in
    subst IsOther (ap (λ (text : List ℕ). text ++ 10 ∷ []) (sym (is.text ∙ is.spelt)))
    (other-talk line.kind line.command (is.addresses ++ line.params) (talk line.kind line.command asks) is.command)

-- ---- what a line tells of users

-- it may still log in, and nothing was told of users
abbrev pub is_early : Stage → Bool
is_early stages.Protocol = true
is_early stages.Identify = true
is_early stages.Verify = true
is_early stage = false

-- it tells of nobody, and changes no user who is present
pub record IsStill (own : SenderView) (effect : Effect) : Type 0 where
  pub own_lines : AreOthers effect.own
  pub others : AreOthers effect.others
  pub presence : is_present (stage_after effect.change own.stage) ≡ is_present own.stage
  pub early : is_early (stage_after effect.change own.stage) ≡ true → is_early own.stage ≡ true
  pub fields : is_present own.stage ≡ true → fields_after effect.change own.fields ≡ own.fields
  pub removes : (sid : ℕ) → is_removed effect.change sid ≡ false
  pub enters : enters effect.change ≡ false

-- its sender is shut out
pub record IsFarewell (own : SenderView) (effect : Effect) : Type 0 where
  pub others : effect.others ≡ farewell own.stage own.sender.sid
  pub hearers : effect.hearers ≡ Others
  pub change : effect.change ≡ Sender senders.Falls

-- its sender enters
pub record IsEntry (hub : HubView) (own : SenderView) (effect : Effect) : Type 0 where
  pub others : effect.others ≡ line_by hub own (fields_after effect.change own.fields) ∷ []
  pub hearers : effect.hearers ≡ Others
  pub welcomes : effect.own ≡ map (line_of hub) hub.users ++ line_by hub own (fields_after effect.change own.fields) ∷ cond (has_feature ucmd own.sender.features) (map menu_line hub.setup.menu) []
  pub here : stage_after effect.change own.stage ≡ stages.Normal
  pub early : is_early own.stage ≡ true
  pub removes : (sid : ℕ) → is_removed effect.change sid ≡ false
  pub enters : enters effect.change ≡ true

-- it changes the fields of its sender
pub record IsRevision (own : SenderView) (effect : Effect) (u : List Field) : Type 0 where
  pub others : effect.others ≡ line_unless_empty own.sender.sid u
  pub hearers : effect.hearers ≡ Those audiences.All
  pub own_lines : effect.own ≡ []
  pub stage : (s : Stage) → stage_after effect.change s ≡ s
  pub fields : (fields : List Field) → fields_after effect.change fields ≡ merged_with fields u
  pub told : AllByRecursion IsTold u
  pub at : own.stage ≡ stages.Normal
  pub removes : (sid : ℕ) → is_removed effect.change sid ≡ false
  pub enters : enters effect.change ≡ false

-- it shuts out this user
pub record IsRemoval (effect : Effect) (target : ℕ) : Type 0 where
  pub operator : ℕ
  pub seconds : Option ℕ
  pub reason : List ℕ
  pub others : effect.others ≡ removal_line target operator seconds reason ∷ []
  pub hearers : effect.hearers ≡ Those audiences.All
  pub own_lines : AreOthers effect.own
  pub stage : (s : Stage) → stage_after effect.change s ≡ s
  pub fields : (fields : List Field) → fields_after effect.change fields ≡ fields
  pub removes : (sid : ℕ) → is_removed effect.change sid ≡ (sid == target)
  pub enters : enters effect.change ≡ false

pub data Tells (hub : HubView) (own : SenderView) (effect : Effect) : Type 0 where
  nobody : IsStill own effect → Tells hub own effect
  leaves : IsFarewell own effect → Tells hub own effect
  entry : IsEntry hub own effect → Tells hub own effect
  revision_of : (u : List Field) → IsRevision own effect u → Tells hub own effect
  removal_of : (user : Listed) (nick : List ℕ) → user_called hub.users nick ≡ Some user → IsRemoval effect user.sid → Tells hub own effect

still-as : (own : SenderView) (effect : Effect) → AreOthers effect.own → AreOthers effect.others → stage_after effect.change own.stage ≡ own.stage
    → fields_after effect.change own.fields ≡ own.fields → ((sid : ℕ) → is_removed effect.change sid ≡ false) → enters effect.change ≡ false → IsStill own effect
still-as own effect own-lines others same fields removes none = record {
  own_lines = own-lines;
  others = others;
  presence = ap is_present same;
  early = λ is. ap is_early (sym same) ∙ is;
  fields = λ at. fields;
  removes = removes;
  enters = none;
}

entry-of : (hub : HubView) (own : SenderView) (effect : Effect) → effect.others ≡ line_by hub own (fields_after effect.change own.fields) ∷ [] → effect.hearers ≡ Others
    → effect.own ≡ map (line_of hub) hub.users ++ line_by hub own (fields_after effect.change own.fields) ∷ cond (has_feature ucmd own.sender.features) (map menu_line hub.setup.menu) []
    → stage_after effect.change own.stage ≡ stages.Normal → is_early own.stage ≡ true → ((sid : ℕ) → is_removed effect.change sid ≡ false) → enters effect.change ≡ true → Tells hub own effect
entry-of hub own effect others hearers welcomes here early removes brings =
    entry (record { others = others; hearers = hearers; welcomes = welcomes; here = here; early = early; removes = removes; enters = brings })

removal-as : (effect : Effect) (act : HubChange) (target operator : ℕ) (seconds : Option ℕ) (reason : List ℕ) → effect.change ≡ Hub act → ((sid : ℕ) → is_removed (Hub act) sid ≡ (sid == target))
    → effect.others ≡ removal_line target operator seconds reason ∷ [] → effect.hearers ≡ Those audiences.All → AreOthers effect.own → IsRemoval effect target
removal-as effect act target operator seconds reason is removes others hearers own-lines = record {
  operator = operator;
  seconds = seconds;
  reason = reason;
  others = others;
  hearers = hearers;
  own_lines = own-lines;
  stage = λ s. ap (λ change. stage_after change s) is;
  fields = λ fields. ap (λ change. fields_after change fields) is;
  removes = λ sid. ap (λ change. is_removed change sid) is ∙ removes sid;
  enters = ap enters is;
}

does-tell : {act : Act} (hub : HubView) (own : SenderView) (done : Done) → Does hub.users hub.bans own.sender.sid act done.others done.change → Tells hub own (effect_for_all done)
does-tell hub own done (kicks nick reason target called) =
    removal_of target nick called (removal-as (effect_for_all done) (shared.At target.sid seats.Gone) target.sid own.sender.sid None reason refl (λ sid. refl) refl refl (other-done, tt))
does-tell hub own done (bans_user nick reason target banned called same room) =
    removal_of target nick called
    (subst (IsRemoval (effect_for_all done)) same
    (removal-as (effect_for_all done) (shared.Ban banned) banned.sid own.sender.sid (Some banned.ban.seconds) reason refl (λ sid. refl) refl refl (other-done, tt)))
does-tell hub own done (silent change is) = nobody (still-as own (effect_for_all done) (other-done, tt) tt refl refl (λ sid. silent-keeps change sid is) refl)
does-tell hub own done (sets_topic text) = nobody (still-as own (effect_for_all done) (other-done, tt) (other-topic text, tt) refl refl (λ sid. refl) refl)

module _ {hub : HubView} {own : SenderView} {line : PreparedLine} {now : ℕ} where
  tells : {said : Option Reading} {request : Request} {effect : Effect} → Outcome hub own line now said request effect
      → ((reading : Reading) → said ≡ Some reading → (lines.reading line.bytes ≡ Ok reading) × (request_of own.stage reading.kind reading.command ≡ request)) → Tells hub own effect
  unfolding listed_user
  tells quiet reads = nobody (still-as own _ tt tt refl refl (λ sid. refl) refl)
  tells (denies deny) reads = nobody (still-as own _ (other-denial deny, tt) tt refl refl (λ sid. refl) refl)
  tells (shuts_out deny) reads = leaves (record { others = refl; hearers = refl; change = refl })
  tells (greets reading features at is) reads = nobody (record {
    own_lines = (other-support, (other-identifier own.sender.sid, (other-hub hub.setup hub.topic _, tt)));
    others = tt;
    presence = sym (ap is_present at);
    early = λ is. ap is_early at;
    fields = λ here. refl;
    removes = λ sid. refl;
    enters = refl;
  })
  tells (waits reading u logs account) reads = nobody (record {
    own_lines = (other-challenge own.sender.challenge, tt);
    others = tt;
    presence = sym (ap is_present logs.at);
    early = λ is. ap is_early logs.at;
    fields = λ here. absurd (false≢true (sym (ap is_present logs.at) ∙ here));
    removes = λ sid. refl;
    enters = refl;
  })
  tells (lets_in reading u logs account) reads = entry-of hub own _ refl refl refl refl (ap is_early logs.at) (λ sid. refl) refl
  tells (proves reading at asks none) reads = entry-of hub own _ refl refl refl refl (ap is_early at) (λ sid. refl) refl
  tells (revises reading u at words none) reads = revision_of (clean u own.sender.peer) (record {
    others = refl;
    hearers = refl;
    own_lines = refl;
    stage = λ s. refl;
    fields = λ fields. refl;
    told = told-clean own.sender.peer line.bytes reading u (reads reading refl).0 words;
    at = at;
    removes = λ sid. refl;
    enters = refl;
  })
  tells (learns reading features at is) reads = nobody (still-as own _ tt tt refl refl (λ sid. refl) refl)
  tells (acts reading done at operator asks does) reads = does-tell hub own done does
  tells (chats reading at) reads = nobody (still-as own _ tt tt refl refl (λ sid. refl) refl)
  tells (searches reading at) reads =
      let read = reads reading refl in
      nobody (still-as own _ tt (
        other-message line.bytes reading read.0
            (ap is_for_users (ap (λ (s : Stage). request_of s reading.kind reading.command) (sym at) ∙ read.1)),
        tt,
      ) refl refl (λ sid. refl) refl)
  tells (passes reading at) reads =
      let read = reads reading refl in
      nobody (still-as own _ tt (
        other-message line.bytes reading read.0
            (ap is_for_users (ap (λ (s : Stage). request_of s reading.kind reading.command) (sym at) ∙ read.1)),
        tt,
      ) refl refl (λ sid. refl) refl)
  tells (ignores reading) reads = nobody (still-as own _ tt tt refl refl (λ sid. refl) refl)

pub line-tells : (hub : HubView) (own : SenderView) (line : PreparedLine) (now : ℕ) → Tells hub own (line_effect hub own line now)
line-tells hub own line now =
    tells (outcome hub own line now) (λ reading said.
    ((is-accepted hub own line now reading said).reads, sym (ap (request_in own) said)))
