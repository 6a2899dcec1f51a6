-- Promises of steps and runs, by what a session holds before and after, and by what its reader and writer tell of themselves.
use Rattle.std.specs.Prelude.{ℕ, Bool, List, [], ◌∷◌, ◌++◌, Option}
use Rattle.counted_io.specs.declared.failures.Failures.{Failures}
use Rattle.hub_rules.specs.Configured.{Configured}
use Rattle.hub_stdio.specs.declared.fault.RunFault.{RunFault}
use Rattle.hub_stdio.specs.declared.session.StreamSession.{StreamSession}
use Rattle.hub_stdio.specs.Faults.{StopsBy, told}
use Rattle.hub_stdio.specs.Runs.{IsServed}
use Rattle.hub_stdio.specs.Serving.{BreaksOff, CatchesUp, GoesOn, Hears, StopsHearing}

-- what a writer holds, or what a reader still has
abbrev pub StreamBytes : Type 0 → Type 0
StreamBytes A = A → Option (List ℕ)

-- which of its calls failed
abbrev pub StreamFailures : Type 0 → Type 0
StreamFailures A = A → Failures

abbrev pub HearsPiece : {W : Type 0} → Configured → (List ℕ → List ℕ) → StreamSession → List ℕ → Bool → StreamSession → StreamBytes W → W → W → Type 0
HearsPiece setup hash before piece ended now holds old new = Hears setup hash (before.framer ++ piece) now.framer ended before.core now.core (holds old) (holds new)

abbrev pub StopsInPiece : {W : Type 0} → RunFault → Configured → (List ℕ → List ℕ) → StreamSession → List ℕ → StreamSession → StreamBytes W → W → W → Type 0
StopsInPiece fault setup hash before piece now holds old new =
    StopsHearing fault setup hash (before.framer ++ piece) now.framer before.core now.core (holds old) (holds new)

-- the line that was framed last is answered
abbrev pub AnswersLine : {W : Type 0} → Configured → (List ℕ → List ℕ) → Bool → StreamSession → StreamSession → StreamBytes W → W → W → Type 0
AnswersLine setup hash ended before now holds old new = GoesOn setup hash (before.line.items ∷ []) ended before.core now.core (holds old) (holds new)

abbrev pub BreaksInLine : {W : Type 0} → Configured → (List ℕ → List ℕ) → StreamSession → StreamBytes W → W → W → Type 0
BreaksInLine setup hash before holds old new = BreaksOff setup hash (before.line.items ∷ []) before.core (holds old) (holds new)

-- whatever the hub was opened with
abbrev pub WritesAll : {W : Type 0} → Bool → StreamSession → StreamSession → StreamBytes W → W → W → Type 0
WritesAll ended before now holds old new =
    (setup : Configured) (hash : List ℕ → List ℕ) → CatchesUp setup hash ended before.core now.core (holds old) (holds new)

abbrev pub RunServes : {R W : Type 0} → Configured → (List ℕ → List ℕ) → StreamBytes R → R → R → StreamBytes W → W → W → Type 0
RunServes setup hash remains before after holds old new = IsServed setup hash (remains before) (remains after) (holds old) (holds new)

abbrev pub RunStops : {R W : Type 0} → RunFault → Configured → (List ℕ → List ℕ) → StreamBytes R → StreamFailures R → R → R → StreamBytes W → StreamFailures W → W → W → Type 0
RunStops fault setup hash remains reads before after holds writes old new =
    StopsBy fault setup hash (told (remains before) (holds old) (reads before) (writes old)) (told (remains after) (holds new) (reads after) (writes new))
