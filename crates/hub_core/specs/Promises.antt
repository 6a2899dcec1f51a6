-- The promises of a hub's answers, one by one.
use Rattle.std.specs.Prelude.{◌≡◌, ◌<◌, ℕ, List, ◌++◌, length, Result, Ok, Err}
use Rattle.outboxes.specs.declared.taken.Taken.{Taken}
use Rattle.user_table.specs.declared.totals.Totals.{Totals}
use Rattle.hub_core.specs.declared.look.Look.{Look}
use Rattle.hub_core.specs.declared.refused.JoinRefused.{JoinRefused}
use Rattle.hub_core.specs.declared.refused.JoinRefused.TheVariants.{Memory, Full, JoinsSpent}
use Rattle.hub_core.specs.CoreState.{CoreState}
use Rattle.hub_core.specs.Moves.{Moves, StandsAt}
use Rattle.hub_rules.specs.declared.history.Call.{Call}
use Rattle.hub_rules.specs.declared.history.Call.TheVariants as calls
use Rattle.hub_rules.specs.declared.history.Entry.{Entry}
use Rattle.hub_rules.specs.declared.history.Reply.TheVariants as replies
use Rattle.hub_rules.specs.Configured.{Configured}
use Rattle.hub_rules.specs.Facts.{facts}
use Rattle.hub_rules.specs.History.{View, sid, totals, view}

-- fewer connections are open than are admitted, and a number is left for one more
abbrev pub HasRoom : CoreState → Type 0
HasRoom core = (length core.seats < core.setup.plain.max_users) × (core.joins < 18_446_744_073_709_551_615)

-- A join is an entry of the history, refused for want of room or of numbers too. Memory may be wanting only where there is
-- room, and then all is as before.
abbrev pub JoinMoves : Result ℕ JoinRefused → CoreState → Call → CoreState → Type 0
JoinMoves (Ok connection) old call new = Moves old call (replies.Joined connection) new
JoinMoves (Err Full) old call new = Moves old call replies.Full new × (new ≡ old)
JoinMoves (Err JoinsSpent) old call new = Moves old call replies.JoinsSpent new × (new ≡ old)
JoinMoves (Err Memory) old call new = HasRoom old × (new ≡ old)

-- the bytes that were appended are what the take is answered
abbrev pub TakeMoves : Taken → ℕ → ℕ → List ℕ → List ℕ → CoreState → CoreState → Type 0
TakeMoves taken connection count before appended old new =
    (bytes : List ℕ) × (appended ≡ before ++ bytes) × Moves old (calls.Take connection count) (replies.Took bytes taken.lines taken.ended) new

-- in any legal history that made the hub what it is, what is told is what the history says
abbrev pub Tells : {A : Type 0} → A → (Configured → (List ℕ → List ℕ) → List Entry → A) → CoreState → Type 0
Tells told said core = (setup : Configured) (hash : List ℕ → List ℕ) (h : List Entry) → StandsAt setup hash h core → told ≡ said setup hash h

-- the identifier that the history gave the connection
abbrev pub SidOf : ℕ → ℕ → CoreState → Type 0
SidOf told connection core = Tells told (λ setup hash h. sid setup hash h connection) core

-- how far the connection is, how many users are present, how many lines wait
abbrev pub seen_of : Look → View
seen_of look = record { stage = look.stage; present = look.present; waiting = look.waiting }

abbrev pub LooksAt : Look → ℕ → CoreState → Type 0
LooksAt look connection core = Tells (seen_of look) (λ setup hash h. view setup hash h connection) core

abbrev pub CountsJoins : ℕ → CoreState → Type 0
CountsJoins joins core = Tells joins (λ setup hash h. (facts setup hash h).joins) core

abbrev pub SumsUp : Totals → CoreState → Type 0
SumsUp told core = Tells told totals core
