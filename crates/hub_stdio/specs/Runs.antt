-- The bytes that a hub for one connection reads and writes. Its history has one caller, and is written newest first.
use Rattle.std.specs.Prelude.{◌≡◌, ◌⊎◌, ℕ, ◌+◌, ◌<◌, true, List, [], ◌∷◌, ◌++◌, length, take, map, replicate, Option}
use Rattle.std.specs.List.{All, concat}
use Rattle.std.specs.Io.KnownBytes.{Appends, Consumes, IsAtEnd}
use Rattle.adc_line.specs.Frames.{max_line, HasNoLf}
use Rattle.adc_line.specs.Stream.{lines, joined_lines, IsLine}
use Rattle.hub_rules.specs.declared.history.Call.{Call}
use Rattle.hub_rules.specs.declared.history.Call.TheVariants.{Join, Line, Quit, Take}
use Rattle.hub_rules.specs.declared.history.Entry.{Entry}
use Rattle.hub_rules.specs.Configured.{Configured}
use Rattle.hub_rules.specs.History.{lags, lines_owed, stage, count_taken}
use Rattle.hub_rules.specs.Legal.{Legal}
use Rattle.login_state.specs.declared.stage.Stage.TheVariants.{Gone}

-- the one caller, and its connection, which is the first to join
abbrev pub first : ℕ
first = 1

-- what the connection is challenged with
abbrev pub zeros : List ℕ
zeros = replicate 24 0

-- the connection comes from 127.0.0.1
abbrev pub join : Call
join = Join (127 ∷ 0 ∷ 0 ∷ 1 ∷ []) zeros 0

-- the connection sends a line
abbrev pub says : List ℕ → Call
says line = Line first line 0

-- a call, takes left out
abbrev pub calls_but_takes : Call → List Call
calls_but_takes (Join peer challenge now) = Join peer challenge now ∷ []
calls_but_takes (Line connection line now) = Line connection line now ∷ []
calls_but_takes (Quit connection) = Quit connection ∷ []
calls_but_takes (Take connection count) = []

-- the calls of a history, oldest first, takes left out
abbrev pub asked_in : List Entry → List Call
asked_in [] = []
asked_in (e ∷ h) = asked_in h ++ calls_but_takes e.call

-- the bytes of all lines that the connection is owed
abbrev pub owed_in : Configured → (List ℕ → List ℕ) → List Entry → List ℕ
owed_in setup hash h = concat (lines_owed setup hash h first)

-- the connection was shut out
abbrev pub IsGone : Configured → (List ℕ → List ℕ) → List Entry → Type 0
IsGone setup hash h = stage setup hash h first ≡ Gone

-- more was owed to it at once than may wait, so that it is owed nothing any more
abbrev pub Lags : Configured → (List ℕ → List ℕ) → List Entry → Type 0
Lags setup hash h = lags setup hash h first ≡ true

-- nothing more will come from the hub
abbrev pub IsOver : Configured → (List ℕ → List ℕ) → List Entry → Type 0
IsOver setup hash h = IsGone setup hash h ⊎ Lags setup hash h

-- nothing that the connection is owed waits any more
abbrev pub IsAllWritten : Configured → (List ℕ → List ℕ) → List Entry → Type 0
IsAllWritten setup hash h = count_taken setup hash h first ≡ length (lines_owed setup hash h first)

-- of a line, that this holds
abbrev pub OfLine : Call → Type 0 → Type 0
OfLine (Join peer challenge now) Holds = Unit
OfLine (Line connection line now) Holds = Holds
OfLine (Quit connection) Holds = Unit
OfLine (Take connection count) Holds = Unit

-- each line was handed over when nothing that was owed for those before it waited any more
abbrev pub AnswersInTurn : Configured → (List ℕ → List ℕ) → List Entry → Type 0
AnswersInTurn setup hash [] = Unit
AnswersInTurn setup hash (e ∷ h) = OfLine e.call (IsAllWritten setup hash h) × AnswersInTurn setup hash h

-- a legal history of the one caller
pub record IsOwn (setup : Configured) (hash : List ℕ → List ℕ) (h : List Entry) : Type 0 where
  pub legal : Legal setup hash h
  pub own : All (λ e. e.caller ≡ first) h

-- what was read was answered: in a legal history of one caller, which joins and then sends each line of what was read,
-- the connection is owed what was written, each line after all that was owed before was taken
pub record IsOwedWritten (setup : Configured) (hash : List ℕ → List ℕ) (unread left held holds : Option (List ℕ)) (read : List ℕ) (h : List Entry) : Type 0 where
  pub consumed : Consumes unread left read
  pub history : IsOwn setup hash h
  pub calls : asked_in h ≡ join ∷ map says (lines read)
  pub in_turn : AnswersInTurn setup hash h
  pub written : Appends held holds (owed_in setup hash h)

-- what was read was answered in part: the calls of the history are the first of those, and what was written is the front
-- of what the connection is owed
pub record IsAnsweredInPart (setup : Configured) (hash : List ℕ → List ℕ) (unread left held holds : Option (List ℕ)) (read : List ℕ) (h : List Entry) : Type 0 where
  pub consumed : Consumes unread left read
  pub history : IsOwn setup hash h
  pub calls : (later : _) × (asked_in h ++ later ≡ join ∷ map says (lines read))
  pub in_turn : AnswersInTurn setup hash h
  pub written : (front : _) × (rest : _) × (owed_in setup hash h ≡ front ++ rest) × Appends held holds front

-- behind its lines a stream has a rest, in which a line may begin
abbrev pub IsWellCut : List ℕ → Type 0
IsWellCut read = (rest : List ℕ) × (read ≡ joined_lines (lines read) ++ rest) × IsLine rest

-- all was answered, and the reader was at its end and no line too long, or nothing more will come from the hub
abbrev pub IsServed : Configured → (List ℕ → List ℕ) → Option (List ℕ) → Option (List ℕ) → Option (List ℕ) → Option (List ℕ) → Type 0
IsServed setup hash unread left held holds =
    (read : List ℕ) × (h : List Entry) × IsOwedWritten setup hash unread left held holds read h
    × ((IsAtEnd left × IsWellCut read) ⊎ IsOver setup hash h)

-- behind its lines a stream has over 65,536 bytes without a line feed
abbrev pub EndsTooLong : List ℕ → Type 0
EndsTooLong read =
    (rest : List ℕ) × (read ≡ joined_lines (lines read) ++ rest) × (max_line < length rest) × HasNoLf (take (max_line + 1) rest)
