-- The calls between the one that accepts streams and the source that brings them, one after another.
use Rattle.std.specs.Prelude.{◌≡◌, ◌++◌, ◌+◌, ℕ, List, [], ◌∷◌, replicate, sum_by, flat_map, Result, Ok, Err}
use Rattle.futures.specs.declared.task.Poll.{Poll}
use Rattle.futures.specs.declared.task.Poll.TheVariants.{Ready, Pending}
use Rattle.adc_sessions.specs.declared.incoming.Peer.{Peer}

-- a call of the source: a stream came from a peer, it failed, or there was none
pub data Arrival (S : Type 0) : Type 0 where
  came : S → Peer → Arrival S
  failed : Arrival S
  waited : Arrival S

abbrev pub arrival_of : {S E : Type 0} → Poll (Result (S × Peer) E) → Arrival S
arrival_of (Ready (Ok it)) = came it.0 it.1
arrival_of (Ready (Err fault)) = failed
arrival_of Pending = waited

-- one call after another
abbrev pub Brings : {I S : Type 0} → (I → Arrival S → I → Type 0) → I → List (Arrival S) → I → Type 0
Brings brings a [] b = a ≡ b
Brings {I} {S} brings a (arrival ∷ arrivals) b = (c : I) × brings a arrival c × Brings brings c arrivals b

-- the stream that came, with its peer
abbrev pub who_came : {S : Type 0} → Arrival S → List (S × Peer)
who_came (came stream peer) = (stream, peer) ∷ []
who_came failed = []
who_came waited = []

abbrev pub streams_of : {S : Type 0} → Arrival S → ℕ
streams_of (came stream peer) = 1
streams_of failed = 0
streams_of waited = 0

-- how many streams came
abbrev pub streams : {S : Type 0} → List (Arrival S) → ℕ
streams = sum_by streams_of

-- how many faults came since the last stream, once this happened too
abbrev pub faults_by : {S : Type 0} → ℕ → Arrival S → ℕ
faults_by count (came stream peer) = 0
faults_by count failed = count + 1
faults_by count waited = count

abbrev pub answers_of : {S : Type 0} → Arrival S → List (Arrival S)
answers_of (came stream peer) = came stream peer ∷ []
answers_of failed = failed ∷ []
answers_of waited = []

-- the last 64 calls that had not to wait failed
abbrev pub EndsInFaults : {S : Type 0} → List (Arrival S) → Type 0
EndsInFaults {S} arrivals = (before : List (Arrival S)) × (flat_map answers_of arrivals ≡ before ++ replicate 64 failed)
