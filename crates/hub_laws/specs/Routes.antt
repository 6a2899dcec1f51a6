-- The users who are owed a message, by its type (ADC 1.0, "Message types"), and the calls that owe nobody anything.
use Rattle.std.specs.Prelude.{◌≡◌, ◌⊎◌, ℕ, ◌==◌, ◌&&◌, ◌||◌, Bool, true, false, List, [], ◌∷◌, Option, Some, None, Ok, if◌then◌else◌}
use Rattle.adc_line.specs.Lines as lines
use Rattle.adc_line.specs.Lines.{Reading}
use Rattle.adc_line.specs.declared.header.Kind.{Kind}
use Rattle.adc_line.specs.declared.header.Kind.TheVariants as kinds
use Rattle.feature_route.specs.Matching.{meets, su_words}
use Rattle.feature_route.specs.Wants.{wants_of}
use Rattle.hub_rules.specs.declared.history.Call.TheVariants.{Join, Line, Quit, Take}
use Rattle.hub_rules.specs.declared.history.Entry.{Entry}
use Rattle.login_state.specs.declared.request.Request.TheVariants.{Message, Search}
use Rattle.hub_rules.specs.Configured.{Configured}
use Rattle.hub_rules.specs.Denied.{denial_of}
use Rattle.hub_rules.specs.Effects.{is_present, is_target_here}
use Rattle.hub_rules.specs.Facts.{facts, own_of, sight_of}
use Rattle.hub_rules.specs.History.{about, info, sid, stage}
use Rattle.hub_rules.specs.Identities.{su_in}
use Rattle.hub_invariants.specs.Lag.{share}
use Rattle.hub_rules.specs.Prepared.{prepared_line}
use Rattle.hub_rules.specs.Requests.{request_of}
use Rattle.hub_rules.specs.Texts.{with_line_feed}
use Rattle.login_state.specs.declared.stage.Stage.TheVariants.{Gone, Normal}

-- ---- messages of users

abbrev pub is_named : Option ℕ → ℕ → Bool
is_named None sid = false
is_named (Some target) sid = target == sid

-- the words of SU have each feature that the message wants, and none that it does not want
abbrev pub has_wanted : Option (List ℕ) → List ℕ → Bool
has_wanted None su = false
has_wanted (Some word) su = meets (wants_of word) (su_words su)

-- for whom a message of the user `own` is: a broadcast for all; a direct one for its target, where that user is present; an echoed one
-- for both of them, where the target is present; a feature one for those who have the features; any other for nobody
abbrev pub is_for : Kind → Reading → Bool → ℕ → ℕ → List ℕ → Bool
is_for kinds.Broadcast line target_here own sid su = true
is_for kinds.Direct line target_here own sid su = target_here && is_named line.target sid
is_for kinds.Echo line target_here own sid su = target_here && (is_named line.target sid || (own == sid))
is_for kinds.Feature line target_here own sid su = has_wanted line.features su
is_for kind line target_here own sid su = false

-- the bytes are a message that a user who is present may send to users now, under its own name
pub record IsMessage (setup : Configured) (hash : List ℕ → List ℕ) (h : List Entry) (c : ℕ) (bytes : List ℕ) (now : ℕ) (line : Reading) : Type 0 where
  pub some : bytes ≡ [] → ⊥
  pub reading : lines.reading bytes ≡ Ok line
  pub present : stage setup hash h c ≡ Normal
  pub from : line.from ≡ Some (sid setup hash h c)
  pub to_users : (request_of Normal line.kind line.command ≡ Message) ⊎ (request_of Normal line.kind line.command ≡ Search)
  pub allowed :
      denial_of (sight_of setup (facts setup hash h)) (own_of (about setup hash h c)) (prepared_line setup hash (about setup hash h c).sender.challenge bytes) now line ≡ None

-- those who are present and for whom it is are owed it, as it came; all others are owed nothing
abbrev pub MessagesAreRouted : Type 0
MessagesAreRouted =
    (setup : Configured) (hash : List ℕ → List ℕ) (h : List Entry) (c d : ℕ) (bytes : List ℕ) (now : ℕ) (line : Reading) → IsMessage setup hash h c bytes now line
    → share setup hash (facts setup hash h) d (Line c bytes now)
    ≡ (if is_present (stage setup hash h d)
    && is_for line.kind line (is_target_here (sight_of setup (facts setup hash h)) line.target) (sid setup hash h c) (sid setup hash h d) (su_in (info setup hash h d))
    then with_line_feed line.text ∷ []
    else [])

-- ---- what owes nobody anything

-- a join and a take
abbrev pub JoinsAndTakesOweNothing : Type 0
JoinsAndTakesOweNothing =
    (setup : Configured) (hash : List ℕ → List ℕ) (h : List Entry) (c d : ℕ) (peer challenge : List ℕ) (now count : ℕ)
    → (share setup hash (facts setup hash h) d (Join peer challenge now) ≡ []) × (share setup hash (facts setup hash h) d (Take c count) ≡ [])

-- an empty line
abbrev pub EmptyLinesOweNothing : Type 0
EmptyLinesOweNothing =
    (setup : Configured) (hash : List ℕ → List ℕ) (h : List Entry) (c d now : ℕ) → share setup hash (facts setup hash h) d (Line c [] now) ≡ []

-- a line of a connection that is shut out
abbrev pub WhoIsOutIsNotHeard : Type 0
WhoIsOutIsNotHeard =
    (setup : Configured) (hash : List ℕ → List ℕ) (h : List Entry) (c d : ℕ) (bytes : List ℕ) (now : ℕ)
    → stage setup hash h c ≡ Gone → share setup hash (facts setup hash h) d (Line c bytes now) ≡ []

-- the quit of a connection whose user was not present
abbrev pub QuietQuits : Type 0
QuietQuits =
    (setup : Configured) (hash : List ℕ → List ℕ) (h : List Entry) (c d : ℕ)
    → is_present (stage setup hash h c) ≡ false → share setup hash (facts setup hash h) d (Quit c) ≡ []

-- a line of one who is present neither before it nor after it, to anybody else: so nobody hears a login that fails, or a password
abbrev pub StrangersAreNotHeard : Type 0
StrangersAreNotHeard =
    (setup : Configured) (hash : List ℕ → List ℕ) (h : List Entry) (e : Entry) (c d : ℕ) (bytes : List ℕ) (now : ℕ) → e.call ≡ Line c bytes now → (d == c) ≡ false
    → is_present (stage setup hash h c) ≡ false → is_present (stage setup hash (e ∷ h) c) ≡ false → share setup hash (facts setup hash h) d e.call ≡ []
