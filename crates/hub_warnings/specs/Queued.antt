-- Lines that are put together from bytes, and what is written of a queue of them.
use Rattle.std.specs.Prelude.{◌≡◌, ◌≢◌, ◌⊎◌, ◌==◌, ℕ, List, [], ◌∷◌, ◌++◌, Bool, if◌then◌else◌, Option, All, IsTrue, length, false}
use Rattle.std.specs.List.{concat}
use Rattle.std.specs.Io.KnownBytes.{Appends}
use Rattle.log.specs.declared.level.Level.TheVariants.{Warn}
use Rattle.hub_warnings.specs.declared.lines.Dropped.{Dropped}
use Rattle.hub_warnings.specs.Texts.{journal_line, dropped_text}
use Rattle.hub_warnings.specs.Logged.{priority_if}
use Rattle.hub_warnings.specs.Clocks.{IsToldBy}
use Rattle.std.specs.declared.time.Duration.{Duration}

-- no byte of it ends a line
abbrev pub IsOpen : List ℕ → Type 0
IsOpen bytes = All (λ byte. byte ≢ 10) bytes

-- one line with its end: its first line feed is its last byte
abbrev pub is_line : List ℕ → Bool
is_line [] = false
is_line (byte ∷ bytes) = if byte == 10 then length bytes == 0 else is_line bytes

-- the line that is open behind these bytes, where this one was open before them
abbrev pub open_after : List ℕ → List ℕ → List ℕ
open_after line [] = line
open_after line (byte ∷ bytes) = open_after (if byte == 10 then [] else (line ++ byte ∷ [])) bytes

-- the line about those that were dropped, or nothing where none was
abbrev pub dropped_line : Bool → Dropped → List ℕ
dropped_line has_priorities dropped =
    if dropped.count == 0 then [] else journal_line false (priority_if has_priorities Warn) (dropped_text dropped)

-- a writer got that line, of a moment that this clock may tell
abbrev pub TellsDropped : {C : Type 0} → (C → Option Duration → Type 0) → C → Bool → Option (List ℕ) → Option (List ℕ) → Type 0
TellsDropped reads clock has_priorities before now =
    (dropped : Dropped) × IsToldBy reads clock dropped.moment × Appends before now (dropped_line has_priorities dropped)

-- a line of the queue, or what is said of those that were dropped
abbrev pub IsPiece : Bool → List ℕ → Type 0
IsPiece has_priorities bytes = IsTrue (is_line bytes) ⊎ ((dropped : Dropped) × (bytes ≡ dropped_line has_priorities dropped))

-- a writer got such pieces and nothing else
abbrev pub AppendsPieces : Bool → Option (List ℕ) → Option (List ℕ) → Type 0
AppendsPieces has_priorities before now = (pieces : List (List ℕ)) × All (IsPiece has_priorities) pieces × Appends before now (concat pieces)

-- a line, and then such pieces
abbrev pub AppendsLine : Bool → List ℕ → Option (List ℕ) → Option (List ℕ) → Type 0
AppendsLine has_priorities line before now = (between : Option (List ℕ)) × Appends before between line × AppendsPieces has_priorities between now

-- such pieces, and at last what is said of those that were dropped
abbrev pub AppendsAll : {C : Type 0} → (C → Option Duration → Type 0) → C → Bool → Option (List ℕ) → Option (List ℕ) → Type 0
AppendsAll reads clock has_priorities before now =
    (between : Option (List ℕ)) × AppendsPieces has_priorities before between × TellsDropped reads clock has_priorities between now
