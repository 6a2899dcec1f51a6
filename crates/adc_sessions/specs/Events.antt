-- The calls between a session, its stream and its port, one after another.
use Rattle.std.specs.Prelude.{◌≡◌, ◌⊎◌, ◌<◌, ◌++◌, ◌+◌, ◌-◌, length, ℕ, leb, Bool, true, false, List, [], ◌∷◌, Option, Some, ⊤}
use Rattle.std.specs.List.{All, flat_map}
use Rattle.std.specs.declared.io.Error.{Error}
use Rattle.tokio.specs.Io.Moved.{Passes}
use Rattle.hub_rules.specs.declared.history.Verdict.{Verdict}
use Rattle.hub_rules.specs.declared.history.Verdict.TheVariants.{Kept, Ended}
use Rattle.outboxes.specs.declared.taken.Taken.{Taken}

-- a call of the stream. A call that had to wait is one that read or wrote no bytes
pub data StreamCall : Type 0 where
  read : List ℕ → StreamCall
  met_end : StreamCall
  read_failed : StreamCall
  wrote : List ℕ → StreamCall
  write_failed : StreamCall

-- a call of the port: a line and what was said of it; for how many lines a take asked, its bytes and what it told; or a refusal
pub data PortCall : Type 0 where
  handed : List ℕ → Verdict → PortCall
  took : ℕ → List ℕ → Taken → PortCall
  refused : PortCall

pub data Event : Type 0 where
  on_stream : StreamCall → Event
  on_port : PortCall → Event

-- what a stream says of a call: its state before, the call, its state after. A write fails that takes no byte of some
abbrev pub StreamStep : {S : Type 0} → Passes S → (S → Type 0) → (S → Error → Type 0) → Passes S → (S → Type 0) → (S → Error → Type 0) → S → StreamCall → S → Type 0
StreamStep reads at_end read_fails writes full write_fails a (read bytes) b = reads a bytes b
StreamStep reads at_end read_fails writes full write_fails a met_end b = reads a [] b × at_end b
StreamStep reads at_end read_fails writes full write_fails a read_failed b = reads a [] b × ((fault : Error) × read_fails b fault)
StreamStep reads at_end read_fails writes full write_fails a (wrote bytes) b = writes a bytes b
StreamStep reads at_end read_fails writes full write_fails a write_failed b = writes a [] b × (full b ⊎ ((fault : Error) × write_fails b fault))

abbrev pub calls_of_stream : Event → List StreamCall
calls_of_stream (on_stream call) = call ∷ []
calls_of_stream (on_port call) = []

abbrev pub calls_of_port : Event → List PortCall
calls_of_port (on_stream call) = []
calls_of_port (on_port call) = call ∷ []

-- all calls of the stream, in order
abbrev pub stream_calls : List Event → List StreamCall
stream_calls = flat_map calls_of_stream

-- all calls of the port, in order
abbrev pub port_calls : List Event → List PortCall
port_calls = flat_map calls_of_port

-- one call after another, from the first state to the last
abbrev pub Runs : {A C : Type 0} → (A → C → A → Type 0) → A → List C → A → Type 0
Runs step a [] b = a ≡ b
Runs {A} step a (call ∷ calls) b = (m : A) × step a call m × Runs step m calls b

module _ {S P : Type 0} (reports : S → StreamCall → S → Type 0) (calls : P → PortCall → P → Type 0) where
  -- one call, which leaves the other side as it was
  abbrev pub Happens : S → P → Event → S → P → Type 0
  Happens s p (on_stream call) s' p' = reports s call s' × (p' ≡ p)
  Happens s p (on_port call) s' p' = calls p call p' × (s' ≡ s)

  -- one call after another
  abbrev pub Happen : S → P → List Event → S → P → Type 0
  Happen s p [] s' p' = (s ≡ s') × (p ≡ p')
  Happen s p (event ∷ events) s' p' = (t : S) × (q : P) × Happens s p event t q × Happen t q events s' p'

abbrev pub bytes_read : Event → List ℕ
bytes_read (on_stream (read bytes)) = bytes
bytes_read (on_stream met_end) = []
bytes_read (on_stream read_failed) = []
bytes_read (on_stream (wrote bytes)) = []
bytes_read (on_stream write_failed) = []
bytes_read (on_port call) = []

-- how many bytes one read may give
abbrev pub most_read : ℕ
most_read = 2_048

abbrev pub bytes_written : Event → List ℕ
bytes_written (on_stream (read bytes)) = []
bytes_written (on_stream met_end) = []
bytes_written (on_stream read_failed) = []
bytes_written (on_stream (wrote bytes)) = bytes
bytes_written (on_stream write_failed) = []
bytes_written (on_port call) = []

abbrev pub lines_handed : Event → List (List ℕ)
lines_handed (on_stream call) = []
lines_handed (on_port (handed line verdict)) = line ∷ []
lines_handed (on_port (took count bytes taken)) = []
lines_handed (on_port refused) = []

abbrev pub bytes_taken : Event → List ℕ
bytes_taken (on_stream call) = []
bytes_taken (on_port (handed line verdict)) = []
bytes_taken (on_port (took count bytes taken)) = bytes
bytes_taken (on_port refused) = []

-- whether the end of the input was met, once this happened too
abbrev pub met_by : Bool → Event → Bool
met_by met (on_stream (read bytes)) = met
met_by met (on_stream met_end) = true
met_by met (on_stream read_failed) = met
met_by met (on_stream (wrote bytes)) = met
met_by met (on_stream write_failed) = met
met_by met (on_port call) = met

-- what the last take told, once this happened too
abbrev pub told_by : Option Taken → Event → Option Taken
told_by before (on_stream call) = before
told_by before (on_port (handed line verdict)) = before
told_by before (on_port (took count bytes taken)) = Some taken
told_by before (on_port refused) = before

-- whether the port said that it hears nothing more, once this happened too
abbrev pub over_by : Bool → Event → Bool
over_by over (on_stream call) = over
over_by over (on_port (handed line Kept)) = over
over_by over (on_port (handed line Ended)) = true
over_by over (on_port (took count bytes taken)) = over
over_by over (on_port refused) = over

-- nothing is read and no line is handed over
abbrev pub HearsNothing : Event → Type 0
HearsNothing (on_stream (read bytes)) = ⊥
HearsNothing (on_stream met_end) = ⊥
HearsNothing (on_stream read_failed) = ⊥
HearsNothing (on_stream (wrote bytes)) = ⊤
HearsNothing (on_stream write_failed) = ⊤
HearsNothing (on_port (handed line verdict)) = ⊥
HearsNothing (on_port (took count bytes taken)) = ⊤
HearsNothing (on_port refused) = ⊤

-- once the port said that it hears nothing more, it is told nothing more; `over` says that it did so before
abbrev pub FallsSilent : Bool → List Event → Type 0
FallsSilent over [] = ⊤
FallsSilent over (event ∷ events) = (over ≡ true → HearsNothing event) × FallsSilent (over_by over event) events

abbrev pub IsOfPort : Event → Type 0
IsOfPort (on_stream call) = ⊥
IsOfPort (on_port call) = ⊤

abbrev pub IsOfStream : Event → Type 0
IsOfStream (on_stream call) = ⊤
IsOfStream (on_port call) = ⊥

-- how many bytes were taken and are not written, once this happened too
abbrev pub waiting_by : ℕ → Event → ℕ
waiting_by count event = (count + length (bytes_taken event)) - length (bytes_written event)

-- the port is called only once all that was taken before is written; `count` bytes wait at first
abbrev pub CallsWhenWritten : ℕ → List Event → Type 0
CallsWhenWritten count [] = ⊤
CallsWhenWritten count (event ∷ events) = (IsOfPort event → count ≡ 0) × CallsWhenWritten (waiting_by count event) events

-- a call that failed, or was refused
abbrev pub IsFailedCall : Event → Type 0
IsFailedCall (on_stream (read bytes)) = ⊥
IsFailedCall (on_stream met_end) = ⊥
IsFailedCall (on_stream read_failed) = ⊤
IsFailedCall (on_stream (wrote bytes)) = ⊥
IsFailedCall (on_stream write_failed) = ⊤
IsFailedCall (on_port (handed line verdict)) = ⊥
IsFailedCall (on_port (took count bytes taken)) = ⊥
IsFailedCall (on_port refused) = ⊤

abbrev pub HasNoFault : List Event → Type 0
HasNoFault [] = ⊤
HasNoFault (event ∷ events) = (IsFailedCall event → ⊥) × HasNoFault events

-- nothing comes after a call that failed or was refused
abbrev pub StopsAtFault : List Event → Type 0
StopsAtFault [] = ⊤
StopsAtFault (event ∷ events) = (IsFailedCall event → events ≡ []) × StopsAtFault events

-- what all events make of a value
abbrev pub after : {A : Type 0} → (A → Event → A) → A → List Event → A
after by value [] = value
after by value (event ∷ events) = after by (by value event) events

abbrev pub all_read : List Event → List ℕ
all_read = flat_map bytes_read

abbrev pub all_written : List Event → List ℕ
all_written = flat_map bytes_written

abbrev pub all_handed : List Event → List (List ℕ)
all_handed = flat_map lines_handed

abbrev pub all_taken : List Event → List ℕ
all_taken = flat_map bytes_taken

-- this is the last of all
abbrev pub EndsWith : {A : Type 0} → A → List A → Type 0
EndsWith {A} last all = (before : List A) × (all ≡ before ++ last ∷ [])

-- Tells whether a take has to follow, as something may wait of which nobody tells, once this happened too: behind a line, behind the end of the
-- input, and behind a take that gave as many lines as it asked for.
abbrev pub owes_by : Bool → Event → Bool
owes_by owes (on_stream (read bytes)) = owes
owes_by owes (on_stream met_end) = true
owes_by owes (on_stream read_failed) = owes
owes_by owes (on_stream (wrote bytes)) = owes
owes_by owes (on_stream write_failed) = owes
owes_by owes (on_port (handed line verdict)) = true
owes_by owes (on_port (took count bytes taken)) = leb count taken.lines
owes_by owes (on_port refused) = true

-- the last call of the port is a take that gave fewer lines than it asked for: so it came behind the last line that was handed over
abbrev pub IsCaughtUp : List Event → Type 0
IsCaughtUp events =
    (before later : List Event) × (count : ℕ) × (bytes : List ℕ) × (taken : Taken)
    × (events ≡ before ++ on_port (took count bytes taken) ∷ later) × (taken.lines < count) × All IsOfStream later

-- the last call of the port is a take that gave no line, and the end of the input was met before it
abbrev pub IsDrained : List Event → Type 0
IsDrained events =
    (before later : List Event) × (count : ℕ) × (bytes : List ℕ) × (taken : Taken)
    × (events ≡ before ++ on_port (took count bytes taken) ∷ later) × (taken.lines ≡ 0) × (after met_by false before ≡ true) × All IsOfStream later

-- whether the port was not called yet, once this happened too
abbrev pub fresh_by : Bool → Event → Bool
fresh_by fresh (on_stream call) = fresh
fresh_by fresh (on_port call) = false

-- a write, or a take
abbrev pub GoesFirst : Event → Type 0
GoesFirst (on_stream (read bytes)) = ⊥
GoesFirst (on_stream met_end) = ⊥
GoesFirst (on_stream read_failed) = ⊥
GoesFirst (on_stream (wrote bytes)) = ⊤
GoesFirst (on_stream write_failed) = ⊤
GoesFirst (on_port (handed line verdict)) = ⊥
GoesFirst (on_port (took count bytes taken)) = ⊤
GoesFirst (on_port refused) = ⊤

-- the first call that is no write is a take; `fresh` says that the port was not called before
abbrev pub TakesFirst : Bool → List Event → Type 0
TakesFirst fresh [] = ⊤
TakesFirst fresh (event ∷ events) = (fresh ≡ true → GoesFirst event) × TakesFirst (fresh_by fresh event) events
