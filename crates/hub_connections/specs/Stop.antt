-- When a server stops: once as many connections came as its settings say.
use Rattle.hub_connections.specs.NamedHub.{hub_in}
use Rattle.std.specs.Prelude.{◌≡◌, ◌+◌, ℕ, zero, suc, List, Option, Some, None}
use Rattle.hub_connections.specs.declared.terms.Terms.{Terms}
use Rattle.hub_shared.specs.Callers.{HubState}

-- the number of connections after which a server stops, by that of its settings: 0 is never
abbrev pub stop_of : ℕ → Option ℕ
stop_of zero = None
stop_of (suc count) = Some (suc count)

-- a listener that was bound under these terms has accepted as many connections as the server was to accept
abbrev pub HasStopped : {I H R : Type 0} → (I → Terms H R) → (I → ℕ) → Terms H R → ℕ → Type 0
HasStopped {I} terms_of accepted terms stop_after = (port : I) × (terms_of port ≡ terms) × (stop_of stop_after ≡ Some (accepted port))

-- once as many more connections came as are left to accept, the server stops
abbrev pub StopsWhen : {I P : Type 0} → Type 0 → (I → P) → (I → ℕ) → I → Option ℕ → Type 0
StopsWhen {I} stops promise_of accepted port left =
    (later : I) (more : ℕ) → promise_of later ≡ promise_of port → left ≡ Some more → accepted later ≡ accepted port + more → ∥ stops ∥₁

-- the terms of a server: its hub, its clock and its seed
pub record AreTerms {H R : Type 0} (hub : HubState H) (clock : R) (seed : List ℕ) (terms : Terms H R) : Type 0 where
  pub hub_is : (hub_in terms) ≡ hub
  pub clock_is : terms.clock.value ≡ clock
  pub seed_is : terms.seed.value ≡ seed
