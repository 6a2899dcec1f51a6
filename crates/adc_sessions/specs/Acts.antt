-- The calls that a session makes in one poll, those of its bell among them, and what is known after each.
use Rattle.std.specs.Prelude.{◌≡◌, ◌+◌, Bool, true, false, ℕ, List, [], ◌∷◌, length, Option, Some, None, ⊤}
use Rattle.std.specs.List.{flat_map}
use Rattle.adc_sessions.specs.Events.{Event, read, met_end, read_failed, wrote, write_failed, handed, took, refused, on_stream, on_port, bytes_written, HearsNothing, GoesFirst, fresh_by}

-- a call of the bell: it was heard, and had been rung or not; it was asked whether a line may be handed over, with so many bytes unread, and
-- said so or not; it was told that so many bytes were written, and whether the stream had been full
pub data BellCall : Type 0 where
  heard : Bool → BellCall
  asked : ℕ → Bool → BellCall
  noted : ℕ → Bool → BellCall

-- a call of the stream or the port, or one of the bell
pub data SessionAct : Type 0 where
  did : Event → SessionAct
  on_bell : BellCall → SessionAct

abbrev pub events_in : SessionAct → List Event
events_in (did event) = event ∷ []
events_in (on_bell call) = []

-- the calls of the stream and the port among these
abbrev pub events_of : List SessionAct → List Event
events_of = flat_map events_in

-- whether the port was not called yet, once this happened too
abbrev pub fresh_after : Bool → SessionAct → Bool
fresh_after fresh (did event) = fresh_by fresh event
fresh_after fresh (on_bell call) = fresh

-- whether the bell had been rung when it was last heard, once this happened too
abbrev pub rung_after : Option Bool → SessionAct → Option Bool
rung_after rung (did event) = rung
rung_after rung (on_bell (heard now)) = Some now
rung_after rung (on_bell (asked bytes may)) = rung
rung_after rung (on_bell (noted bytes was_full)) = rung

-- whether a line may be handed over, as the bell said when it was last asked since the last line, once this happened too
abbrev pub may_after : Option Bool → SessionAct → Option Bool
may_after may (did (on_stream call)) = may
may_after may (did (on_port (handed line verdict))) = None
may_after may (did (on_port (took count bytes taken))) = may
may_after may (did (on_port refused)) = may
may_after may (on_bell (heard now)) = may
may_after may (on_bell (asked bytes says)) = Some says
may_after may (on_bell (noted bytes was_full)) = may

-- whether a read is next, as none was tried since the last take, once this happened too
abbrev pub reads_after : Bool → SessionAct → Bool
reads_after reads (did (on_stream (read bytes))) = false
reads_after reads (did (on_stream met_end)) = false
reads_after reads (did (on_stream read_failed)) = false
reads_after reads (did (on_stream (wrote bytes))) = reads
reads_after reads (did (on_stream write_failed)) = reads
reads_after reads (did (on_port (handed line verdict))) = reads
reads_after reads (did (on_port (took count bytes taken))) = true
reads_after reads (did (on_port refused)) = reads
reads_after reads (on_bell call) = reads

-- how many bytes were written of which the bell was not told, once this happened too
abbrev pub untold_after : ℕ → SessionAct → ℕ
untold_after count (did event) = count + length (bytes_written event)
untold_after count (on_bell (heard now)) = count
untold_after count (on_bell (asked bytes says)) = count
untold_after count (on_bell (noted bytes was_full)) = 0

-- whether the stream would take nothing of what it was offered, since the bell was last told of a write, once this happened too
abbrev pub full_after : Bool → SessionAct → Bool
full_after full (did (on_stream (read bytes))) = full
full_after full (did (on_stream met_end)) = full
full_after full (did (on_stream read_failed)) = full
full_after full (did (on_stream (wrote []))) = true
full_after full (did (on_stream (wrote (byte ∷ bytes)))) = full
full_after full (did (on_stream write_failed)) = full
full_after full (did (on_port call)) = full
full_after full (on_bell (heard now)) = full
full_after full (on_bell (asked bytes says)) = full
full_after full (on_bell (noted bytes was_full)) = false

-- the bell is told so many bytes, and whether the stream was full before; or there is nothing of which it has to be told
abbrev pub TellsBell : ℕ → Bool → SessionAct → Type 0
TellsBell untold full (did event) = untold ≡ 0
TellsBell untold full (on_bell (heard now)) = untold ≡ 0
TellsBell untold full (on_bell (asked bytes says)) = untold ≡ 0
TellsBell untold full (on_bell (noted bytes was_full)) = (bytes ≡ untold) × (was_full ≡ full)

-- the bell is asked with this number of bytes, if it is asked
abbrev pub AsksWith : ℕ → SessionAct → Type 0
AsksWith unread (did event) = ⊤
AsksWith unread (on_bell (heard now)) = ⊤
AsksWith unread (on_bell (asked bytes says)) = bytes ≡ unread
AsksWith unread (on_bell (noted bytes was_full)) = ⊤

abbrev pub IsTake : SessionAct → Type 0
IsTake (did (on_stream call)) = ⊥
IsTake (did (on_port (handed line verdict))) = ⊥
IsTake (did (on_port (took count bytes taken))) = ⊤
IsTake (did (on_port refused)) = ⊥
IsTake (on_bell call) = ⊥

abbrev pub IsHandOver : SessionAct → Type 0
IsHandOver (did (on_stream call)) = ⊥
IsHandOver (did (on_port (handed line verdict))) = ⊤
IsHandOver (did (on_port (took count bytes taken))) = ⊥
IsHandOver (did (on_port refused)) = ⊥
IsHandOver (on_bell call) = ⊥

abbrev pub IsReadAct : SessionAct → Type 0
IsReadAct (did (on_stream (read bytes))) = ⊤
IsReadAct (did (on_stream met_end)) = ⊤
IsReadAct (did (on_stream read_failed)) = ⊤
IsReadAct (did (on_stream (wrote bytes))) = ⊥
IsReadAct (did (on_stream write_failed)) = ⊥
IsReadAct (did (on_port call)) = ⊥
IsReadAct (on_bell call) = ⊥

-- a write, a take, or a call of the bell
abbrev pub MayBegin : SessionAct → Type 0
MayBegin (did event) = GoesFirst event
MayBegin (on_bell call) = ⊤

-- nothing is read and no line is handed over
abbrev pub TellsNothing : SessionAct → Type 0
TellsNothing (did event) = HearsNothing event
TellsNothing (on_bell call) = ⊤
