-- Invariants of the steps of a run.
use Rattle.std.specs.Prelude.{◌≡◌, ℕ, ◌+◌, ◌<◌, Bool, true, false, List, [], ◌∷◌, ◌++◌, length, take, map, MatchResult, Option, Result}
use Rattle.std.specs.List.{All, concat}
use Rattle.std.specs.Io.KnownBytes.{Appends}
use Rattle.adc_line.specs.Frames.{max_line, HasNoLf}
use Rattle.adc_line.specs.Stream.{lines, joined_lines, IsLine}
use Rattle.counted_io.specs.Calls.{LastFailed, NoneFailed}
use Rattle.counted_io.specs.declared.failures.Failures.{Failures}
use Rattle.hub_core.specs.CoreState.{CoreState}
use Rattle.hub_core.specs.Moves.{StandsAt}
use Rattle.hub_rules.specs.declared.history.Entry.{Entry}
use Rattle.hub_rules.specs.Configured.{Configured}
use Rattle.hub_rules.specs.Facts.{facts}
use Rattle.hub_rules.specs.History.{about}
use Rattle.hub_rules.specs.Shares.{ConnState}
use Rattle.hub_stdio.specs.declared.fault.RunFault.{RunFault}
use Rattle.hub_stdio.specs.declared.fault.RunFault.TheVariants as faults
use Rattle.hub_stdio.specs.Runs.{first, join, says, zeros, asked_in, owed_in, AnswersInTurn, IsAllWritten, IsOver, IsOwn}

-- what the history makes of the connection
abbrev pub about_first : Configured → (List ℕ → List ℕ) → List Entry → ConnState
about_first setup hash h = about setup hash h first

-- the hub stands at a history of the one caller, whose connection alone is on it
pub record IsAlone (setup : Configured) (hash : List ℕ → List ℕ) (h : List Entry) (core : CoreState) : Type 0 where
  pub stands : StandsAt setup hash h core
  pub own : All (λ e. e.caller ≡ first) h
  pub opened : (facts setup hash h).opened ≡ first ∷ []
  pub owner : (about_first setup hash h).owner ≡ first
  pub challenge : (about_first setup hash h).sender.challenge ≡ zeros

-- a run so far: what the writer held before it, the lines that were handed over, the calls that were made
pub record Run : Type 0 where
  pub held : Option (List ℕ)
  pub sent : List (List ℕ)
  pub history : List Entry

-- the bytes of the lines that were taken
abbrev pub taken_in : Configured → (List ℕ → List ℕ) → List Entry → List ℕ
taken_in setup hash h = concat (take (about_first setup hash h).taken (about_first setup hash h).owed)

-- the hub stands where the run is, and what was taken was written
pub record IsUnderWay (setup : Configured) (hash : List ℕ → List ℕ) (run : Run) (core : CoreState) (holds : Option (List ℕ)) : Type 0 where
  pub alone : IsAlone setup hash run.history core
  pub calls : asked_in run.history ≡ join ∷ map says run.sent
  pub in_turn : AnswersInTurn setup hash run.history
  pub written : Appends run.held holds (taken_in setup hash run.history)

-- a run is under way
abbrev pub IsRunning : Configured → (List ℕ → List ℕ) → CoreState → Option (List ℕ) → Type 0
IsRunning setup hash core holds = (run : Run) × IsUnderWay setup hash run core holds

-- and nothing waits
abbrev pub IsIdle : Configured → (List ℕ → List ℕ) → CoreState → Option (List ℕ) → Type 0
IsIdle setup hash core holds = (run : Run) × IsUnderWay setup hash run core holds × IsAllWritten setup hash run.history

-- the run with this history
abbrev pub at_history : Run → List Entry → Run
at_history run h = record { held = run.held; sent = run.sent; history = h }

-- the run after more lines, with this history
abbrev pub run_after : Run → List (List ℕ) → List Entry → Run
run_after run more h = record { held = run.held; sent = run.sent ++ more; history = h }

-- only the first of the lines `due` were handed over, and only the front of what the connection is owed was written
pub record IsCutOff (setup : Configured) (hash : List ℕ → List ℕ) (held : Option (List ℕ)) (due : List (List ℕ)) (h : List Entry) (holds : Option (List ℕ)) : Type 0 where
  pub history : IsOwn setup hash h
  pub calls : (sent : List (List ℕ)) × (later : List (List ℕ)) × (due ≡ sent ++ later) × (asked_in h ≡ join ∷ map says sent)
  pub in_turn : AnswersInTurn setup hash h
  pub written : (front : List ℕ) × (rest : List ℕ) × (owed_in setup hash h ≡ front ++ rest) × Appends held holds front

-- a run can begin with this hub
abbrev pub Starts : Configured → (List ℕ → List ℕ) → CoreState → Type 0
Starts setup hash core =
    (held : Option (List ℕ)) → (h : List Entry) × IsUnderWay setup hash (record { held = held; sent = []; history = h }) core held × IsAllWritten setup hash h

-- whatever run was under way goes on, and then nothing waits; where it has ended, nothing more will come from the hub
abbrev pub CatchesUp : Configured → (List ℕ → List ℕ) → Bool → CoreState → CoreState → Option (List ℕ) → Option (List ℕ) → Type 0
CatchesUp setup hash ended old new before now =
    (run : Run) → IsUnderWay setup hash run old before
    → (h : List Entry) × IsUnderWay setup hash (at_history run h) new now × IsAllWritten setup hash h × (ended ≡ true → IsOver setup hash h)

-- whatever run was under way was cut off
abbrev pub FallsShort : Configured → (List ℕ → List ℕ) → CoreState → Option (List ℕ) → Option (List ℕ) → Type 0
FallsShort setup hash old before now =
    (run : Run) → IsUnderWay setup hash run old before → (h : List Entry) × IsCutOff setup hash run.held run.sent h now

-- whatever run was ready was handed these lines, and is ready; where it has ended, nothing more will come from the hub
abbrev pub GoesOn : Configured → (List ℕ → List ℕ) → List (List ℕ) → Bool → CoreState → CoreState → Option (List ℕ) → Option (List ℕ) → Type 0
GoesOn setup hash more ended old new before now =
    (run : Run) → IsUnderWay setup hash run old before → IsAllWritten setup hash run.history
    → (h : List Entry) × IsUnderWay setup hash (run_after run more h) new now × IsAllWritten setup hash h × (ended ≡ true → IsOver setup hash h)

-- whatever run was ready was cut off within these lines
abbrev pub BreaksOff : Configured → (List ℕ → List ℕ) → List (List ℕ) → CoreState → Option (List ℕ) → Option (List ℕ) → Type 0
BreaksOff setup hash more old before now =
    (run : Run) → IsUnderWay setup hash run old before → IsAllWritten setup hash run.history
    → (h : List Entry) × IsCutOff setup hash run.held (run.sent ++ more) h now

-- the bytes are these lines, each with its line feed, and then the rest
pub record IsCutInto (bytes : List ℕ) (sent : List (List ℕ)) (rest : List ℕ) : Type 0 where
  pub whole : bytes ≡ joined_lines sent ++ rest
  pub are_lines : All IsLine sent

-- all lines of the bytes were handled; the rest has none
abbrev pub HandlesAll : Configured → (List ℕ → List ℕ) → List ℕ → List ℕ → Bool → CoreState → CoreState → Option (List ℕ) → Option (List ℕ) → Type 0
HandlesAll setup hash bytes rest ended old new before now =
    (more : List (List ℕ)) × IsCutInto bytes more rest × (lines rest ≡ []) × GoesOn setup hash more ended old new before now

-- and unless it has ended, a line may begin in the rest
abbrev pub Hears : Configured → (List ℕ → List ℕ) → List ℕ → List ℕ → Bool → CoreState → CoreState → Option (List ℕ) → Option (List ℕ) → Type 0
Hears setup hash bytes rest ended old new before now =
    HandlesAll setup hash bytes rest ended old new before now × (ended ≡ false → IsLine rest)

-- all lines were handled, and the rest is too long; or memory or a write failed
abbrev pub StopsHearing : RunFault → Configured → (List ℕ → List ℕ) → List ℕ → List ℕ → CoreState → CoreState → Option (List ℕ) → Option (List ℕ) → Type 0
StopsHearing faults.Memory setup hash bytes rest old new before now = BreaksOff setup hash (lines bytes) old before now
StopsHearing faults.Read setup hash bytes rest old new before now = ⊥
StopsHearing faults.Write setup hash bytes rest old new before now = BreaksOff setup hash (lines bytes) old before now
StopsHearing faults.TooLong setup hash bytes rest old new before now =
    HandlesAll setup hash bytes rest false old new before now × (max_line < length rest) × HasNoLf (take (max_line + 1) rest)
StopsHearing faults.Turns setup hash bytes rest old new before now = ⊥

-- memory or a write failed
abbrev pub IsInAnswering : RunFault → Type 0
IsInAnswering faults.Memory = Unit {0}
IsInAnswering faults.Read = ⊥
IsInAnswering faults.Write = Unit {0}
IsInAnswering faults.TooLong = ⊥
IsInAnswering faults.Turns = ⊥

-- the last call of the writer failed where that is the fault, and no other
abbrev pub WritesStop : RunFault → Failures → Failures → Type 0
WritesStop faults.Memory before after = NoneFailed before after
WritesStop faults.Read before after = NoneFailed before after
WritesStop faults.Write before after = LastFailed before after
WritesStop faults.TooLong before after = NoneFailed before after
WritesStop faults.Turns before after = NoneFailed before after

abbrev pub WritesEnd : {A : Type 0} → Result A RunFault → Failures → Failures → Type 0
WritesEnd answer before after = MatchResult answer (λ _. NoneFailed before after) (λ fault. WritesStop fault before after)
