-- The seat of one connection after an effect.
use Rattle.std.proofs.Common.{◌≡◌, ◌∙◌, sym, ap, ap₂, refl, ℕ, ◌≤◌, Bool, true, false, not, ◌&&◌, ◌||◌, ◌+◌, List, [], ◌∷◌, ◌++◌, length, drop, arith, append-nil, Option, Some, None}
use Rattle.std.specs.Prelude.{◌==◌, cond}
use Rattle.feature_route.specs.Matching.{feature_set}
use Rattle.login_state.specs.declared.stage.Stage.{Stage}
use Rattle.login_state.specs.declared.stage.Stage.TheVariants as stages
use Rattle.outboxes.specs.Backlogs.{Backlog, fits, backlog_after, marked_lagging, size_of, with_lines}
use Rattle.hub_core.specs.declared.seat.Phase.{Phase}
use Rattle.hub_core.specs.declared.seat.Phase.TheVariants as phases
use Rattle.hub_core.specs.declared.seat.Seat.{Seat}
use Rattle.hub_core.specs.Phases.{phase_after, phase_at, phase_hears, phase_of, stage_in}
use Rattle.hub_core.specs.Seats.{changed_seat, seat_after_change_at, seat_after_if, seat_share, seat_with}
use Rattle.hub_core.specs.Backlogs.{backlog_of, given_backlog}
use Rattle.hub_rules.specs.declared.effect.Change.{Change}
use Rattle.hub_rules.specs.declared.effect.Change.TheVariants.{Hub, Nothing, Sender}
use Rattle.hub_rules.specs.declared.effect.Effect.{Effect}
use Rattle.hub_rules.specs.declared.effect.Entrant.{Entrant}
use Rattle.hub_rules.specs.declared.effect.Hearers.{Hearers}
use Rattle.hub_rules.specs.declared.effect.Hearers.TheVariants.{Others, Those}
use Rattle.hub_rules.specs.declared.sender.SeatChange.{SeatChange}
use Rattle.hub_rules.specs.declared.effect.SenderChange.TheVariants as senders
use Rattle.hub_rules.specs.Effects.{entrant, is_present}
use Rattle.hub_rules.specs.Facts.{own_of}
use Rattle.hub_rules.specs.Identities.{listed_user, su_in}
use Rattle.inf_fields.specs.Field.{Field}
use Rattle.std.specs.Prelude.{if◌then◌else◌}
use Rattle.hub_rules.specs.Senders.{is_removal, notes_by}
use Rattle.hub_rules.specs.Shares.{ConnState, change_at, has_room, hears_those, lags_with, max_bytes, max_lines, owed_with, owes, waiting}
use Rattle.hub_invariants.specs.Afterwards.{expected_after, fields_after, is_gone_at, notes_at, stage_after, affected_parts}
use Rattle.hub_invariants.proofs.Suits.{Routed, Suited, Suits}
use Rattle.hub_invariants.proofs.Members.{and-false}
use Rattle.hub_invariants.proofs.Tidy.{waiting-more}
use Rattle.hub_core.proofs.Tests.{true-le}
use Rattle.std.proofs.lemmas.Bool.{false≢true}

-- ---- who hears

those-same : (is_caller : Bool) (hearers : Hearers) (a : ConnState) → Routed hearers → a.stage ≡ stages.Normal
    → phase_hears (phases.Normal (feature_set (su_in a.fields))) is_caller hearers a.sender.sid ≡ hears_those is_caller hearers a
those-same is_caller Others a routed here = refl
those-same is_caller (Those to) a routed here = routed a.sender.sid (su_in a.fields)

hears-at : (stage : Stage) (is_caller : Bool) (hearers : Hearers) (a : ConnState) → Routed hearers → a.stage ≡ stage
    → phase_hears (phase_at stage a) is_caller hearers a.sender.sid ≡ (is_present stage && hears_those is_caller hearers a)
hears-at stages.Protocol is_caller hearers a routed is = refl
hears-at stages.Identify is_caller hearers a routed is = refl
hears-at stages.Verify is_caller hearers a routed is = refl
hears-at stages.Normal is_caller hearers a routed is = those-same is_caller hearers a routed is
hears-at stages.Gone is_caller hearers a routed is = refl

pub share-same : (c d : ℕ) (effect : Effect) (a : ConnState) → Routed effect.hearers → seat_share c effect (seat_with d a) ≡ owes (d == c) effect a
share-same c d effect a routed =
    ap (λ b. cond b effect.others [] ++ cond (d == c) effect.own []) (hears-at a.stage (d == c) effect.hearers a routed refl)

-- ---- a share

-- what waits for a connection once it is owed a share
abbrev backlog_with : ConnState → List (List ℕ) → Backlog
backlog_with a share = record { lines = drop a.taken (owed_with a share); lags = lags_with a share; cap = max_lines; bytes = max_bytes }

abbrev backlog_if : Bool → ConnState → List (List ℕ) → Backlog
backlog_if room a share = record { lines = drop a.taken (cond room (a.owed ++ share) a.owed); lags = not room || a.lags; cap = max_lines; bytes = max_bytes }

given-by : (lags fit : Bool) (a : ConnState) (share : List (List ℕ)) → a.lags ≡ lags → a.taken ≤ length a.owed
    → (if lags then backlog_of a else (if fit then with_lines (backlog_of a) (waiting a ++ share) else marked_lagging (backlog_of a)))
    ≡ backlog_if (not lags && fit) a share
given-by true fit a share is few = ap (λ b. record (backlog_of a) { lags = b }) is
given-by false true a share is few = ap (λ (ls : List (List ℕ)). record (backlog_of a) { lines = ls }) (sym (waiting-more a share few))
given-by false false a share is few = refl

backlog-given : (a : ConnState) (share : List (List ℕ)) → a.taken ≤ length a.owed → backlog_after (backlog_of a) share ≡ backlog_with a share
unfolding backlog_after owed_with lags_with
backlog-given a share few = given-by a.lags (fits (backlog_of a) share) a share refl few

-- what waits is within the limits, so that it is as before where nothing is added
nothing-more : (room : Bool) (a : ConnState) → (room ≡ false → a.lags ≡ true) → backlog_of a ≡ backlog_if room a []
nothing-more true a lag = ap (λ (ls : List (List ℕ)). record (backlog_of a) { lines = drop a.taken ls }) (sym (append-nil a.owed))
nothing-more false a lag = ap (λ b. record (backlog_of a) { lags = b }) (lag refl)

no-room : (lags fit : Bool) → fit ≡ true → (not lags && fit) ≡ false → lags ≡ true
no-room true fit is none = refl
no-room false fit is none = absurd (false≢true (sym none ∙ is))

fits-nothing : (a : ConnState) → length (waiting a) ≤ max_lines → size_of (waiting a) ≤ max_bytes → fits (backlog_of a) [] ≡ true
fits-nothing a lines bytes =
    ap₂ ◌&&◌ (true-le (length (waiting a) + 0) max_lines (omega (arith, lines))) (true-le (size_of (waiting a) + 0) max_bytes (omega (arith, bytes)))

-- for a connection that is owed nothing waits what waited
pub with-nothing : (a : ConnState) → length (waiting a) ≤ max_lines → size_of (waiting a) ≤ max_bytes → backlog_of a ≡ backlog_with a []
unfolding owed_with lags_with
with-nothing a lines bytes = nothing-more (has_room a []) a (no-room a.lags (fits (backlog_of a) []) (fits-nothing a lines bytes))

gives : (a : ConnState) (share : List (List ℕ)) → a.taken ≤ length a.owed → length (waiting a) ≤ max_lines → size_of (waiting a) ≤ max_bytes → given_backlog share (backlog_of a) ≡ backlog_with a share
gives a [] few lines bytes = with-nothing a lines bytes
gives a (line ∷ share) few lines bytes = backlog-given a (line ∷ share) few

-- ---- a change

-- of a connection whose user stays what it is, the phase stays
kept-phase : (stage : Stage) (a b : ConnState) → b.sender.sid ≡ a.sender.sid → b.fields ≡ a.fields → b.expected ≡ a.expected → phase_at stage a ≡ phase_at stage b
kept-phase stages.Protocol a b sid fields expected = refl
kept-phase stages.Identify a b sid fields expected = refl
kept-phase stages.Verify a b sid fields expected =
    ap (λ n. phases.Verify (entrant (listed_user n a.fields)) a.expected) (sym sid)
    ∙ ap (λ fs. phases.Verify (entrant (listed_user b.sender.sid fs)) a.expected) (sym fields)
    ∙ ap (λ (x : List ℕ). phases.Verify (entrant (listed_user b.sender.sid b.fields)) x) (sym expected)
kept-phase stages.Normal a b sid fields expected = ap (λ fs. phases.Normal (feature_set (su_in fs))) (sym fields)
kept-phase stages.Gone a b sid fields expected = refl

entrant-support : (sid : ℕ) (fields : List Field) → (entrant (listed_user sid fields)).support ≡ feature_set (su_in fields)
unfolding listed_user
entrant-support sid fields = refl

-- what a change makes of what is known of a user
abbrev known_after : Change → ConnState → ConnState
known_after change a = record a { fields = fields_after change a.fields; expected = expected_after change a.expected }

changed-phase : (change : Change) (a : ConnState) → Suited (own_of a) change → phase_after change (phase_of a) ≡ phase_at (stage_after change a.stage) (known_after change a)
changed-phase Nothing a suited = kept-phase a.stage a (known_after Nothing a) refl refl refl
changed-phase (Sender (senders.Greets features)) a suited = refl
changed-phase (Sender (senders.Waits newcomer expected)) a suited = ap (λ (e : Entrant). phases.Verify e expected) suited.1
changed-phase (Sender senders.Enters) a suited =
    ap (λ s. phase_after (Sender senders.Enters) (phase_at s a)) suited ∙ ap phases.Normal (entrant-support a.sender.sid a.fields)
changed-phase (Sender (senders.EntersAs newcomer)) a suited =
    ap (λ (e : Entrant). phases.Normal e.support) suited.1 ∙ ap phases.Normal (entrant-support a.sender.sid newcomer.user.fields)
changed-phase (Sender (senders.Learns features)) a suited = kept-phase a.stage a (known_after (Sender (senders.Learns features)) a) refl refl refl
changed-phase (Sender (senders.Updates revision)) a suited =
    ap phases.Normal suited.1 ∙ ap (λ s. phase_at s (known_after (Sender (senders.Updates revision)) a)) (sym suited.0)
changed-phase (Sender (senders.Searches now)) a suited = kept-phase a.stage a (known_after (Sender (senders.Searches now)) a) refl refl refl
changed-phase (Sender senders.Falls) a suited = refl
changed-phase (Hub change) a suited = kept-phase a.stage a (known_after (Hub change) a) refl refl refl

-- ---- who is shut out

stage-of : (stage : Stage) (a : ConnState) → stage_in (phase_at stage a) ≡ stage
stage-of stages.Protocol a = refl
stage-of stages.Identify a = refl
stage-of stages.Verify a = refl
stage-of stages.Normal a = refl
stage-of stages.Gone a = refl

pub stage-kept : (d : ℕ) (a : ConnState) → stage_in (seat_with d a).phase ≡ a.stage
stage-kept d a = stage-of a.stage a

-- where an operator changes a connection, its user is present in the seat where it is in what is known of it
abbrev StaysHere : Option (ℕ × SeatChange) → Seat → ConnState → Type 0
StaysHere (Some at) seat a = is_present (stage_in seat.phase) ≡ is_present a.stage
StaysHere None seat a = Unit {0}

here-other : (at : Option (ℕ × SeatChange)) (seat : Seat) (a : ConnState) → seat.phase ≡ phase_of a → StaysHere at seat a
here-other (Some at) seat a is = ap is_present (ap stage_in is ∙ stage-of a.stage a)
here-other None seat a is = tt

here-self : (change : Change) (seat : Seat) (a : ConnState) → seat.phase ≡ phase_after change (phase_of a) → StaysHere (change_at change) seat a
here-self Nothing seat a is = tt
here-self (Sender change) seat a is = tt
here-self (Hub change) seat a is = here-other (change_at (Hub change)) seat a is

-- what an operator's change makes of a seat whose connection is at this stage
abbrev changed_if : Bool → SeatChange → Seat → Stage → ConnState → Seat
changed_if here change seat stage b = record seat {
  sender = record seat.sender { notes = cond here (notes_by change seat.sender.notes) seat.sender.notes };
  phase = phase_at (cond (here && is_removal change) stages.Gone stage) b;
}

phase-if : (removal : Bool) (seat : Seat) (stage : Stage) (b : ConnState) → seat.phase ≡ phase_at stage b → cond removal phases.Gone seat.phase ≡ phase_at (cond removal stages.Gone stage) b
phase-if true seat stage b is = refl
phase-if false seat stage b is = is

changes-if : (here : Bool) (change : SeatChange) (seat : Seat) (stage : Stage) (b : ConnState) → seat.phase ≡ phase_at stage b → seat_after_if here change seat ≡ changed_if here change seat stage b
changes-if true change seat stage b is =
    ap (λ (p : Phase). record seat { sender = record seat.sender { notes = notes_by change seat.sender.notes }; phase = p }) (phase-if (is_removal change) seat stage b is)
changes-if false change seat stage b is = ap (λ (p : Phase). record seat { phase = p }) is

swap : (a b c : Bool) → (a && (b && c)) ≡ ((a && c) && b)
swap a b c = grind arith

changes-at : (at : Option (ℕ × SeatChange)) (seat : Seat) (a b : ConnState) (stage : Stage) → seat.sender.sid ≡ a.sender.sid → StaysHere at seat a → seat.phase ≡ phase_at stage b
    → seat_after_change_at at seat
    ≡ record seat { sender = record seat.sender { notes = notes_at at a seat.sender.notes }; phase = phase_at (cond (is_present a.stage && is_gone_at at a.sender.sid) stages.Gone stage) b }
changes-at (Some (sid, change)) seat a b stage same here is =
    changes-if _ change seat stage b is
    ∙ ap₂ (λ p n. changed_if (p && (n == sid)) change seat stage b) here same
    ∙ ap (λ gone. record seat { sender = record seat.sender { notes = notes_at (Some (sid, change)) a seat.sender.notes }; phase = phase_at (cond gone stages.Gone stage) b })
    (sym (swap (is_present a.stage) (is_removal change) (a.sender.sid == sid)))
changes-at None seat a b stage same here is =
    ap (λ (p : Phase). record seat { phase = p }) is
    ∙ ap (λ gone. record seat { phase = phase_at (cond gone stages.Gone stage) b }) (sym (and-false (is_present a.stage)))

-- ---- one connection

pub seat-by : (is_caller : Bool) (effect : Effect) (d : ℕ) (a : ConnState) → (is_caller ≡ true → Suits (own_of a) effect)
    → seat_after_change_at (change_at effect.change) (cond is_caller (changed_seat effect.change (seat_with d a)) (seat_with d a)) ≡ seat_with d (affected_parts is_caller effect a)
seat-by true effect d a suits =
    let seat : Seat = changed_seat effect.change (seat_with d a) in
    let after : ConnState = affected_parts true effect a in
    changes-at (change_at effect.change) seat a after (stage_after effect.change a.stage) refl (here-self effect.change seat a refl)
    (changed-phase effect.change a (suits refl).change ∙ kept-phase (stage_after effect.change a.stage) (known_after effect.change a) after refl refl refl)
seat-by false effect d a suits =
    let after : ConnState = affected_parts false effect a in
    changes-at (change_at effect.change) (seat_with d a) a after a.stage refl (here-other (change_at effect.change) (seat_with d a) a refl) (kept-phase a.stage a after refl refl refl)

pub backlog-by : (is_caller : Bool) (effect : Effect) (a : ConnState) → a.taken ≤ length a.owed → length (waiting a) ≤ max_lines → size_of (waiting a) ≤ max_bytes
    → given_backlog (owes is_caller effect a) (backlog_of a) ≡ backlog_of (affected_parts is_caller effect a)
backlog-by is_caller effect a few lines bytes = gives a (owes is_caller effect a) few lines bytes
