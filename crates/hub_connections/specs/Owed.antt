-- What a server owes a connection that came: which hub it is served by, with which challenge, and what it is told if there is no place for it.
use Rattle.hub_connections.specs.NamedHub.{hub_in}
use Rattle.std.specs.Prelude.{◌≡◌, ℕ, List, Option, Some, Result, take}
use Rattle.rand_chacha.specs.ChaCha.{of_seed}
use Rattle.adc_sessions.specs.declared.ending.End.{End}
use Rattle.adc_sessions.specs.Events.{StreamCall}
use Rattle.hub_challenges.specs.Dealing.{dealt, after_dealt}
use Rattle.hub_connections.specs.Peers.{HasComeFrom}
use Rattle.hub_connections.specs.Refusals.{hub_full}
use Rattle.hub_connections.specs.ServedByHub.{ServedByHub}
use Rattle.hub_connections.specs.declared.terms.Terms.{Terms}
use Rattle.hub_shared.specs.Callers.{HubState, PassState, VisitorState}

-- the challenge of the connection with this number: it stands in the seed's stream behind those of all before
abbrev pub challenge_of : List ℕ → ℕ → List ℕ
challenge_of seed number = (dealt (after_dealt number (of_seed seed))).0

-- what a hash means, the moments that a clock tells, and what a stream tells of its calls
module _ {H R S : Type 0} (digest : H → List ℕ → List ℕ) (may_read : R → ℕ → Type 0) (reports : S → StreamCall → S → Type 0) where
  -- A pass of the hub of these terms joined for the connection from its address, with its challenge. The hub served the connection's stream for
  -- that pass, from its beginning until this end.
  pub record IsServed (terms : Terms H R) (number : ℕ) (peer : List ℕ) (stream : S) (end : End) (stream' : S) : Type 0 where
    pub pass : PassState H
    pub visitor : VisitorState H
    pub here : pass.home ≡ (hub_in terms).home
    pub came : HasComeFrom pass peer (challenge_of terms.seed.value number)
    pub served : ServedByHub (hub_in terms).setup (digest (hub_in terms).hash) reports (may_read terms.clock.value) stream pass end stream' visitor

-- one call tried to tell the connection that the hub is full, whatever came of it, and there was no other
abbrev pub IsToldFull : {S E : Type 0} → (S → List ℕ → Result ℕ E → S → Type 0) → S → S → Type 0
IsToldFull {E} tries stream stream' = (result : Result ℕ E) × tries stream hub_full result stream'

-- the connection was written that the hub is full, or the first bytes of that, and nothing else
abbrev pub WritesFull : {S : Type 0} → (S → List ℕ → S → Type 0) → S → S → Type 0
WritesFull writes stream stream' = (count : ℕ) × writes stream (take count hub_full) stream'

-- once the named hub has served this stream for a pass that came so, what is owed to the connection holds
abbrev pub OwesService : {H S : Type 0} → Option (HubState H) → (H → List ℕ → List ℕ) → (S → StreamCall → S → Type 0) → (ℕ → Type 0) → List ℕ → List ℕ → S → (End → S → Type 0) → Type 0
OwesService {H} {S} named digest reports may_read peer challenge stream owed =
    (hub : HubState H) (pass : PassState H) (end : End) (stream' : S) (visitor : VisitorState H) → named ≡ Some hub → pass.home ≡ hub.home → HasComeFrom pass peer challenge
    → ServedByHub hub.setup (digest hub.hash) reports may_read stream pass end stream' visitor → ∥ owed end stream' ∥₁

-- the same for this pass
abbrev pub OwesServiceOf : {H S : Type 0} → Option (HubState H) → (H → List ℕ → List ℕ) → (S → StreamCall → S → Type 0) → (ℕ → Type 0) → S → PassState H → (End → S → Type 0) → Type 0
OwesServiceOf {H} {S} named digest reports may_read stream pass owed =
    (hub : HubState H) (end : End) (stream' : S) (visitor : VisitorState H) → named ≡ Some hub
    → ServedByHub hub.setup (digest hub.hash) reports may_read stream pass end stream' visitor → ∥ owed end stream' ∥₁
