-- The promise of a server that has closed its hub: one legal history, made of the visits of its callers.
use Rattle.hub_connections.specs.NamedHub.{hub_in}
use Rattle.std.specs.Prelude.{◌≡◌, ℕ, List}
use Rattle.std.specs.List.{All}
use Rattle.adc_sessions.specs.Events.{StreamCall}
use Rattle.hub_rules.specs.Configured.{Configured}
use Rattle.hub_connections.specs.Arrivals.{Arrives}
use Rattle.hub_connections.specs.Visits.{HasVisited}
use Rattle.hub_connections.specs.declared.terms.Terms.{Terms}
use Rattle.hub_shared.specs.Callers.{VisitorState}
use Rattle.hub_shared.specs.Close.{Settled}

-- what the tickets of connections say, what a stream tells of its calls, and the moments that a clock tells; the hub's setup, and what its hash means
module _ {H R T S : Type 0} (terms_of : T → Terms H R) (number_of : T → ℕ) (peer_of : T → List ℕ) (began : T → S)
    (reports : S → StreamCall → S → Type 0) (may_read : ℕ → Type 0) (setup : Configured) (hash : List ℕ → List ℕ) where
  -- the visitors of the hub of these terms, who are all back, and how many joins were accepted
  pub record ServedAll (terms : Terms H R) (visitors : List (VisitorState H)) (joins : ℕ) : Type 0 where
    -- one history of a hub for one thread: legal, begun with what each visitor had seen, with the calls of each, all of them, and no other
    pub settled : Settled setup hash visitors joins
    -- they are of that hub, and their calls are visits of connections that came to it
    pub here : All (λ (v : VisitorState H). v.home ≡ (hub_in terms).home) visitors
    pub visits : All (λ (v : VisitorState H). HasVisited reports may_read (Arrives terms_of number_of peer_of began terms) v) visitors
