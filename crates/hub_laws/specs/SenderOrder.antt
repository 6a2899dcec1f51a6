-- Lines of another user come in that user's order, each as often as it was sent to whom it is for, and none that was not sent.
use Rattle.std.specs.Prelude.{◌≡◌, ℕ, ◌==◌, ◌&&◌, Bool, true, false, List, [], ◌∷◌, ◌++◌, length, drop, Option, Some, None, if◌then◌else◌}
use Rattle.adc_line.specs.Lines.{Reading}
use Rattle.hub_rules.specs.declared.history.Call.{Call}
use Rattle.hub_rules.specs.declared.history.Call.TheVariants as calls
use Rattle.hub_rules.specs.declared.history.Entry.{Entry}
use Rattle.login_state.specs.declared.request.Request.{Request}
use Rattle.login_state.specs.declared.request.Request.TheVariants as requests
use Rattle.hub_rules.specs.Configured.{Configured}
use Rattle.hub_rules.specs.Effects.{is_present, is_target_here}
use Rattle.hub_rules.specs.Facts.{Facts, facts, sight_of}
use Rattle.hub_rules.specs.History.{info, lags, lines_owed, sid, stage}
use Rattle.hub_rules.specs.Identities.{su_in}
use Rattle.hub_invariants.specs.Lag.{share}
use Rattle.hub_invariants.specs.Said.{said_in}
use Rattle.hub_rules.specs.Views.{SenderView}
use Rattle.hub_rules.specs.Texts.{with_line_feed}
use Rattle.hub_laws.specs.Routes.{is_for}

-- ---- what each entry adds

-- the lines that an entry adds to those that a connection is owed
abbrev pub lines_added : Configured → (List ℕ → List ℕ) → List Entry → Entry → ℕ → List (List ℕ)
lines_added setup hash h e d = drop (length (lines_owed setup hash h d)) (lines_owed setup hash (e ∷ h) d)

-- they come behind all that it was owed before: no line is taken back, changed, or put between others
abbrev pub OwedGrows : Type 0
OwedGrows =
    (setup : Configured) (hash : List ℕ → List ℕ) (h : List Entry) (e : Entry) (d : ℕ)
    → lines_owed setup hash (e ∷ h) d ≡ lines_owed setup hash h d ++ lines_added setup hash h e d

-- these lines are the first of all those, in order
abbrev pub AreTheFirstOf : List (List ℕ) → List (List ℕ) → Type 0
AreTheFirstOf lines all = (rest : List (List ℕ)) × (all ≡ lines ++ rest)

-- ---- all lines of one user

-- a line or the quit of this connection
abbrev pub is_of : ℕ → Call → Bool
is_of c (calls.Line b bytes now) = b == c
is_of c (calls.Quit b) = b == c
is_of c call = false

-- what the lines and the quit of connection c owe connection d, oldest first
unfoldable pub owed_by : Configured → (List ℕ → List ℕ) → List Entry → ℕ → ℕ → List (List ℕ)
owed_by setup hash [] c d = []
owed_by setup hash (e ∷ h) c d = owed_by setup hash h c d ++ (if is_of c e.call then share setup hash (facts setup hash h) d e.call else [])

-- what they added to what d is owed
unfoldable pub heard_of : Configured → (List ℕ → List ℕ) → List Entry → ℕ → ℕ → List (List ℕ)
heard_of setup hash [] c d = []
heard_of setup hash (e ∷ h) c d = heard_of setup hash h c d ++ (if is_of c e.call then lines_added setup hash h e d else [])

-- d hears of each other connection what that one's calls owe it, in the order of these calls: all of it, or the first of it where it lags
abbrev pub CallsKeepTheirOrder : Type 0
CallsKeepTheirOrder =
    (setup : Configured) (hash : List ℕ → List ℕ) (h : List Entry) (c d : ℕ) → AreTheFirstOf (heard_of setup hash h c d) (owed_by setup hash h c d)
    × (lags setup hash h d ≡ false → heard_of setup hash h c d ≡ owed_by setup hash h c d)

-- ---- its messages

-- a message to users, searches among them
abbrev pub to_users : SenderView → Request → Reading → Option Reading
to_users own requests.Message line = Some line
to_users own requests.Search line = Some line
to_users own request line = None

-- the message to users that a call of connection c is, where it is one and no rule denies it
abbrev pub sent_in : Configured → (List ℕ → List ℕ) → Facts → ℕ → Call → List Reading
sent_in setup hash f c call = said_in to_users setup hash f c call

-- it says of itself that the user of c sent it: nobody speaks in the name of another
abbrev pub SendersAreNamed : Type 0
SendersAreNamed =
    (setup : Configured) (hash : List ℕ → List ℕ) (h : List Entry) (c : ℕ) (call : Call) (line : Reading)
    → sent_in setup hash (facts setup hash h) c call ≡ line ∷ []
    → line.from ≡ Some (sid setup hash h c)

-- the user whom the message names as its target is present
abbrev pub names_present : Configured → (List ℕ → List ℕ) → List Entry → Reading → Bool
names_present setup hash h line = is_target_here (sight_of setup (facts setup hash h)) line.target

-- a message of c as connection d is owed it: as it came, where the user of d is present and it is for that user; else not at all
abbrev pub lines_routed : Configured → (List ℕ → List ℕ) → List Entry → ℕ → ℕ → List Reading → List (List ℕ)
lines_routed setup hash h c d [] = []
lines_routed setup hash h c d (line ∷ more) =
    (if is_present (stage setup hash h d)
    && is_for line.kind line (names_present setup hash h line) (sid setup hash h c) (sid setup hash h d) (su_in (info setup hash h d))
    then with_line_feed line.text ∷ []
    else [])

-- all messages that c sent, as d is owed them, oldest first
unfoldable pub messages_for : Configured → (List ℕ → List ℕ) → List Entry → ℕ → ℕ → List (List ℕ)
messages_for setup hash [] c d = []
messages_for setup hash (e ∷ h) c d = messages_for setup hash h c d ++ lines_routed setup hash h c d (sent_in setup hash (facts setup hash h) c e.call)

abbrev pub is_some_message : List Reading → Bool
is_some_message [] = false
is_some_message (line ∷ more) = true

-- what these messages added to what d is owed
unfoldable pub messages_heard : Configured → (List ℕ → List ℕ) → List Entry → ℕ → ℕ → List (List ℕ)
messages_heard setup hash [] c d = []
messages_heard setup hash (e ∷ h) c d =
    messages_heard setup hash h c d ++ (if is_some_message (sent_in setup hash (facts setup hash h) c e.call) then lines_added setup hash h e d else [])

-- d hears of the messages of c those that are for it, byte for byte, each once for each time that it was sent, in the order in which they were sent:
-- all of them, or the first of them where it lags
abbrev pub MessagesKeepTheirOrder : Type 0
MessagesKeepTheirOrder =
    (setup : Configured) (hash : List ℕ → List ℕ) (h : List Entry) (c d : ℕ) → AreTheFirstOf (messages_heard setup hash h c d) (messages_for setup hash h c d)
    × (lags setup hash h d ≡ false → messages_heard setup hash h c d ≡ messages_for setup hash h c d)
