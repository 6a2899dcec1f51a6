-- Whom the hint after a call names, and that it names everybody whom the call concerned.
use Rattle.std.specs.Prelude.{◌≡◌, ◌≢◌, ◌<◌, ℕ, ◌==◌, ◌||◌, Bool, true, false, List, [], ◌∷◌, length}
use Rattle.hub_core.specs.declared.seat.Phase.{Phase}
use Rattle.hub_core.specs.declared.seat.Seat.{Seat}
use Rattle.hub_core.specs.declared.share.Touched.{Touched}
use Rattle.hub_core.specs.declared.share.Touched.TheVariants.{Nobody, One, Two, Everybody}
use Rattle.hub_core.specs.CoreState.{CoreState}
use Rattle.hub_core.specs.Moves.{StandsAt, entry}
use Rattle.hub_core.specs.Phases.{is_among, phase_hears}
use Rattle.hub_core.specs.Seats.{seat_share}
use Rattle.hub_rules.specs.declared.effect.Change.{Change}
use Rattle.hub_rules.specs.declared.effect.Change.TheVariants.{Sender}
use Rattle.hub_rules.specs.declared.effect.Effect.{Effect}
use Rattle.hub_rules.specs.declared.effect.Hearers.{Hearers}
use Rattle.hub_rules.specs.declared.effect.SenderChange.TheVariants.{Falls}
use Rattle.hub_rules.specs.declared.history.Call.{Call}
use Rattle.hub_rules.specs.declared.history.Call.TheVariants.{Line}
use Rattle.hub_rules.specs.declared.history.Entry.{Entry}
use Rattle.hub_rules.specs.declared.history.Reply.{Reply}
use Rattle.hub_rules.specs.Configured.{Configured}
use Rattle.hub_rules.specs.Effects.{is_over}
use Rattle.hub_rules.specs.Facts.{facts}
use Rattle.hub_rules.specs.History.{about}
use Rattle.hub_rules.specs.Legal.{MayCall, is_open}
use Rattle.hub_rules.specs.Prepared.{prepared_line}
use Rattle.hub_rules.specs.Shares.{ConnState, waiting}
use Rattle.hub_invariants.specs.Afterwards.{is_removed}
use Rattle.hub_rules.specs.Views.{PreparedLine}

-- the connection with this session identifier is named
abbrev pub names : Touched → ℕ → Bool
names Nobody sid = false
names (One one) sid = one == sid
names (Two one other) sid = one == sid || other == sid
names Everybody sid = true

-- ---- whom a call concerned

-- A connection is named if it was concerned between two moments: more lines wait for it, it lags since, or it was shut out.
pub record NamesOne (touched : Touched) (before after : ConnState) : Type 0 where
  pub told : length (waiting before) < length (waiting after) → names touched after.sender.sid ≡ true
  pub lags : before.lags ≡ false → after.lags ≡ true → names touched after.sender.sid ≡ true
  pub shut_out : is_over before.stage ≡ false → is_over after.stage ≡ true → names touched after.sender.sid ≡ true

-- Each connection that is open after the last call of a history is named, if that call concerned it.
abbrev pub NamesConcerned : Touched → Configured → (List ℕ → List ℕ) → List Entry → Type 0
NamesConcerned touched setup hash [] = Unit {0}
NamesConcerned touched setup hash (e ∷ h) =
    (c : ℕ) → is_open c (facts setup hash (e ∷ h)) ≡ true → NamesOne touched (about setup hash h c) (about setup hash (e ∷ h) c)

-- ---- the promise of each call of the hub

-- Whatever legal history the hub stood at: if the caller may make the call, whom it concerns is named after it.
abbrev pub Touches : CoreState → Call → CoreState → Type 0
Touches old call new =
    (setup : Configured) (hash : List ℕ → List ℕ) (h : List Entry) (caller : ℕ) (reply : Reply) → StandsAt setup hash h old
    → MayCall (facts setup hash h) caller call → NamesConcerned new.touched setup hash (entry caller call reply ∷ h)

-- `Touches` of a line that was made ready for this connection: by this setup and hash, and with its challenge.
abbrev pub LineTouches : CoreState → ℕ → PreparedLine → ℕ → CoreState → Type 0
LineTouches old connection line now new =
    (setup : Configured) (hash : List ℕ → List ℕ) (h : List Entry) (caller : ℕ) (reply : Reply) → StandsAt setup hash h old
    → MayCall (facts setup hash h) caller (Line connection line.bytes now)
    → line ≡ prepared_line setup hash ((facts setup hash h).about connection).sender.challenge line.bytes
    → NamesConcerned new.touched setup hash (entry caller (Line connection line.bytes now) reply ∷ h)

-- The call concerns nobody, and nobody is named.
abbrev pub TouchesNobody : CoreState → Call → CoreState → Type 0
TouchesNobody old call new = (new.touched ≡ Nobody) × Touches old call new

-- ---- the effect of a line

-- whoever may hear what is said to others is named
abbrev pub NamesHearers : Touched → Hearers → Type 0
NamesHearers touched hearers = (is_caller : Bool) (sid : ℕ) (support : List (List ℕ)) → is_among is_caller hearers sid support ≡ true → names touched sid ≡ true

-- whoever hears lines of an effect that are for others is named
abbrev pub NamesOthers : Touched → Effect → Type 0
NamesOthers touched effect =
    (phase : Phase) (is_caller : Bool) (sid : ℕ) → phase_hears phase is_caller effect.hearers sid ≡ true → effect.others ≢ [] → names touched sid ≡ true

-- Whoever is owed lines by the effect of a line is named. The line is of the connection with this session identifier.
abbrev pub NamesOwed : Touched → ℕ → Effect → Type 0
NamesOwed touched own effect =
    (c : ℕ) (seat : Seat) → (seat.number ≡ c → seat.sender.sid ≡ own) → seat_share c effect seat ≢ [] → names touched seat.sender.sid ≡ true

-- the connection that sent the line is shut out
abbrev pub falls : Change → Bool
falls (Sender Falls) = true
falls change = false

-- Whoever is owed lines by the effect of a line of the connection with this session identifier is named, and who is shut out.
pub record NamesEffect (touched : Touched) (own : ℕ) (effect : Effect) : Type 0 where
  pub owed : NamesOwed touched own effect
  pub removed : (sid : ℕ) → is_removed effect.change sid ≡ true → names touched sid ≡ true
  pub fallen : falls effect.change ≡ true → names touched own ≡ true
