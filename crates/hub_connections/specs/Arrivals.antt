-- A connection that has just been accepted.
use Rattle.std.specs.Prelude.{◌≡◌, ℕ, List}
use Rattle.hub_listener.specs.Peers.{octets_of}
use Rattle.hub_listener.specs.declared.listens.Arrived.{Arrived}
use Rattle.hub_connections.specs.Owed.{challenge_of}
use Rattle.hub_connections.specs.declared.terms.Terms.{Terms}

-- it came under these terms after so many others, and its ticket says so; its ticket names its address, and its socket is as it was accepted
pub record HasCome {S T H R : Type 0} (terms_of : T → Terms H R) (number_of : T → ℕ) (peer_of : T → List ℕ) (began : T → S) (terms : Terms H R) (number : ℕ) (it : Arrived S T) : Type 0 where
  pub promised : terms_of it.ticket ≡ terms
  pub numbered : number_of it.ticket ≡ number
  pub named : peer_of it.ticket ≡ octets_of it.address
  pub fresh : began it.ticket ≡ it.socket

-- what the tickets of connections say: the terms, the number, the address and the stream of each
module _ {H R T S : Type 0} (terms_of : T → Terms H R) (number_of : T → ℕ) (peer_of : T → List ℕ) (began : T → S) where
  -- a connection came under these terms from this address, has this challenge, and began as this stream
  pub record Arrives (terms : Terms H R) (peer challenge : List ℕ) (stream : S) : Type 0 where
    pub ticket : T
    pub promised : terms_of ticket ≡ terms
    pub from : peer_of ticket ≡ peer
    pub dealt : challenge ≡ challenge_of terms.seed.value (number_of ticket)
    pub fresh : began ticket ≡ stream
