-- Facts of a session as a whole, from its making to its end.
use Rattle.std.specs.Prelude.{◌≡◌, ◌≤◌, ◌<◌, ◌++◌, ◌+◌, ℕ, Bool, true, false, List, length, take, None, IsSomeAnd, ⊤}
use Rattle.std.specs.List.{All}
use Rattle.adc_line.specs.Frames.{max_line, HasNoLf}
use Rattle.adc_line.specs.Stream.{lines, joined_lines}
use Rattle.adc_sessions.specs.declared.ending.End.{End}
use Rattle.adc_sessions.specs.declared.ending.End.TheVariants as ends
use Rattle.adc_sessions.specs.Events.{StreamCall, PortCall, Event, on_stream, read_failed, write_failed, stream_calls, port_calls, Runs, most_read, bytes_read, all_read, all_written, all_handed, all_taken, after, told_by, FallsSilent, CallsWhenWritten, IsDrained, StopsAtFault, EndsWith}

-- a session that ends this way has handed over all lines that came
abbrev pub handed_all : End → Bool
handed_all ends.Closed = true
handed_all ends.Ended = false
handed_all ends.ReadFailed = true
handed_all ends.WriteFailed = false
handed_all ends.TooLong = true
handed_all ends.Memory = false

-- a session that ends this way has written all that it took
abbrev pub wrote_all : End → Bool
wrote_all ends.Closed = true
wrote_all ends.Ended = true
wrote_all ends.ReadFailed = false
wrote_all ends.WriteFailed = false
wrote_all ends.TooLong = false
wrote_all ends.Memory = false

-- behind the lines that were handed over, the first 65,537 bytes hold no line feed
abbrev pub IsTooLong : List Event → Type 0
IsTooLong events = (rest : List ℕ) × (all_read events ≡ joined_lines (all_handed events) ++ rest) × (max_line < length rest) × HasNoLf (take (max_line + 1) rest)

-- why a session ended
abbrev pub IsCauseOf : End → List Event → Type 0
IsCauseOf ends.Closed events = IsDrained events
IsCauseOf ends.Ended events = IsSomeAnd (after told_by None events) (λ taken. taken.ended ≡ true)
IsCauseOf ends.ReadFailed events = EndsWith (on_stream read_failed) events
IsCauseOf ends.WriteFailed events = EndsWith (on_stream write_failed) events
IsCauseOf ends.TooLong events = IsTooLong events
IsCauseOf ends.Memory events = ⊤

-- what these events of a session come to that was made over this stream and ended with that, in the words of the stream alone
pub record Conversed {S : Type 0} (reports : S → StreamCall → S → Type 0) (stream : S) (end : End) (stream' : S) (events : List Event) : Type 0 where
  -- all calls of the stream, in order
  pub streams : Runs reports stream (stream_calls events) stream'
  -- the lines handed over are the first lines of the bytes read
  pub first_lines : (more : List (List ℕ)) × (lines (all_read events) ≡ all_handed events ++ more)
  pub all_lines : handed_all end ≡ true → lines (all_read events) ≡ all_handed events
  -- the bytes written are the first of the bytes taken
  pub first_bytes : (more : List ℕ) × (all_taken events ≡ all_written events ++ more)
  pub all_bytes : wrote_all end ≡ true → all_taken events ≡ all_written events
  -- each read gives few bytes
  pub reads_few : All (λ event. length (bytes_read event) ≤ most_read) events
  -- the port is called only once all that was taken before is written
  pub is_written : CallsWhenWritten 0 events
  -- nothing comes after a call that failed or was refused
  pub stops : StopsAtFault events
  -- once the port said that it hears nothing more, nothing is read and no line is handed over
  pub silent : FallsSilent false events
  pub cause : IsCauseOf end events

-- what a session that was made of this stream and this port ends with: its end, the stream and what its port left
pub record Served {S P Left : Type 0} (reports : S → StreamCall → S → Type 0) (calls : P → PortCall → P → Type 0) (leaves : P → Left → Type 0) (stream : S) (port : P) (end : End) (stream' : S) (left : Left) : Type 0 where
  pub events : List Event
  pub conversed : Conversed reports stream end stream' events
  pub port' : P
  -- all calls of the port, in order; then the port was left
  pub called : Runs calls port (port_calls events) port'
  pub quit : leaves port' left

-- whatever a session of this stream and this port ends with, that holds of it
abbrev pub Serves : {S P Left : Type 0} → (S → StreamCall → S → Type 0) → (P → PortCall → P → Type 0) → (P → Left → Type 0) → S → P → (End × S × Left → Type 0) → Type 0
Serves {S} {P} {Left} reports calls leaves stream port gives =
    (end : End) (stream' : S) (left : Left) → gives (end, stream', left) → Served reports calls leaves stream port end stream' left
