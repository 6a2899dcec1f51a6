-- A session as a machine: what it holds, and how each call changes that.
use Rattle.std.specs.Prelude.{◌≡◌, ◌≤◌, ◌<◌, ◌++◌, ◌+◌, ℕ, Bool, true, false, List, [], length, take, Option, IsSomeAnd, ⊤}
use Rattle.std.specs.List.{All}
use Rattle.outboxes.specs.declared.taken.Taken.{Taken}
use Rattle.adc_line.specs.Frames.{max_line, HasNoLf}
use Rattle.adc_line.specs.Stream.{joined_lines, IsLine}
use Rattle.adc_sessions.specs.declared.ending.End.{End}
use Rattle.adc_sessions.specs.declared.ending.End.TheVariants as ends
use Rattle.adc_sessions.specs.Events.{StreamCall, PortCall, Event, on_stream, read_failed, write_failed, Runs, Happens, most_read, bytes_read, bytes_written, lines_handed, bytes_taken, met_by, told_by, over_by, owes_by, HearsNothing, IsOfPort, HasNoFault, StopsAtFault, EndsWith}

-- the stream, the port, the bytes that were read and are in no line handed over, the bytes that were taken and are not written,
-- whether the end of the input was met, what the last take told, whether the port said that it hears nothing more, and whether a take has to
-- follow
pub record State (S P : Type 0) : Type 0 where
  pub stream : S
  pub port : P
  pub unread : List ℕ
  pub pending : List ℕ
  pub met : Bool
  pub told : Option Taken
  pub over : Bool
  pub owes : Bool

module _ {S P : Type 0} (reports : S → StreamCall → S → Type 0) (calls : P → PortCall → P → Type 0) where
  -- one call: no byte is lost or made up between what comes in and what goes out
  pub record Step (a : State S P) (event : Event) (b : State S P) : Type 0 where
    pub happened : Happens reports calls a.stream a.port event b.stream b.port
    pub lines_kept : a.unread ++ bytes_read event ≡ joined_lines (lines_handed event) ++ b.unread
    pub bytes_kept : a.pending ++ bytes_taken event ≡ bytes_written event ++ b.pending
    pub are_lines : All IsLine (lines_handed event)
    pub reads_few : length (bytes_read event) ≤ most_read
    pub met_kept : b.met ≡ met_by a.met event
    pub told_kept : b.told ≡ told_by a.told event
    pub over_kept : b.over ≡ over_by a.over event
    pub owes_kept : b.owes ≡ owes_by a.owes event
    pub is_written : IsOfPort event → a.pending ≡ []
    pub hears : a.over ≡ true → HearsNothing event

  -- one call after another
  abbrev pub Moves : State S P → List Event → State S P → Type 0
  Moves = Runs Step

  -- at most so many calls
  abbrev pub MovesIn : ℕ → State S P → State S P → Type 0
  MovesIn most a b = (events : List Event) × Moves a events b × (length events ≤ most) × HasNoFault events

-- the last take told this
abbrev pub LastTook : {S P : Type 0} → State S P → (Taken → Type 0) → Type 0
LastTook state P = IsSomeAnd state.told P

-- what holds where a session ends this way after these events
abbrev pub EndsAs : {S P : Type 0} → End → List Event → State S P → Type 0
EndsAs ends.Closed events state = (state.met ≡ true) × HasNoLf state.unread × (state.pending ≡ []) × LastTook state (λ taken. taken.lines ≡ 0) × (state.owes ≡ false)
EndsAs ends.Ended events state = (state.pending ≡ []) × LastTook state (λ taken. taken.ended ≡ true)
EndsAs ends.ReadFailed events state = HasNoLf state.unread × EndsWith (on_stream read_failed) events
EndsAs ends.WriteFailed events state = EndsWith (on_stream write_failed) events
EndsAs ends.TooLong events state = (max_line < length state.unread) × HasNoLf (take (max_line + 1) state.unread)
EndsAs ends.Memory events state = ⊤

module _ {S P : Type 0} (reports : S → StreamCall → S → Type 0) (calls : P → PortCall → P → Type 0) where
  -- from a state on, an end is come to with this stream and this port, by at most so many calls
  abbrev pub FinishesIn : ℕ → State S P → End → S → P → Type 0
  FinishesIn most a end stream port =
      (events : List Event) × (b : State S P) × Moves reports calls a events b × EndsAs end events b × (b.stream ≡ stream) × (b.port ≡ port) × (length events ≤ most) × StopsAtFault events

  -- what comes out of a session in this state: its end, the stream and what its port left
  abbrev pub Gives : {Left : Type 0} → (P → Left → Type 0) → State S P → End → S → Left → Type 0
  Gives leaves a end stream left = (most : ℕ) × (port : P) × FinishesIn most a end stream port × leaves port left
