-- Once all visitors are back, what holds of the hub's history holds of the settings' hub.
use Rattle.hub_connections.specs.NamedHub.{hub_in}
use Rattle.std.proofs.Common.{◌≡◌, ℕ, List, sym, subst}
use Rattle.std.specs.List.{All}
use Rattle.adc_sessions.specs.Events.{StreamCall}
use Rattle.hub_rules.specs.Configured.{Configured}
use Rattle.hub_shared.specs.Callers.{HubState, VisitorState}
use Rattle.hub_shared.specs.Close.{Settled}
use Rattle.hub_connections.specs.Arrivals.{Arrives}
use Rattle.hub_server.specs.ServedAll.{ServedAll}
use Rattle.hub_connections.specs.Visits.{HasVisited}
use Rattle.hub_connections.specs.declared.terms.Terms.{Terms}

-- the same setup and the same hash
settled-of : {X H : Type 0} (digest : X → List ℕ → List ℕ) (setup setup' : Configured) (hash hash' : X) → setup ≡ setup' → hash ≡ hash' → (visitors : List (VisitorState H)) (joins : ℕ)
    → Settled setup (digest hash) visitors joins → Settled setup' (digest hash') visitors joins
settled-of digest setup setup' hash hash' same alike visitors joins s =
    subst (λ x. Settled x (digest hash') visitors joins) same (subst (λ h. Settled setup (digest h) visitors joins) alike s)

module _ {H R T S : Type 0} (terms_of : T → Terms H R) (number_of : T → ℕ) (peer_of : T → List ℕ) (began : T → S) (reports : S → StreamCall → S → Type 0) (may_read : ℕ → Type 0)
    (digest : H → List ℕ → List ℕ) (setup : Configured) (hash : H) where
  -- the visitors who came back, of this hub
  pub served-all : (hub : HubState H) (terms : Terms H R) (visitors back : List (VisitorState H)) (joins : ℕ) → hub.setup ≡ setup → hub.hash ≡ hash → (hub_in terms) ≡ hub → back ≡ visitors
      → Settled hub.setup (digest hub.hash) visitors joins → All (λ (v : VisitorState H). v.home ≡ hub.home) visitors
      → All (λ (v : VisitorState H). HasVisited reports may_read (Arrives terms_of number_of peer_of began terms) v) visitors
      → ServedAll terms_of number_of peer_of began reports may_read setup (digest hash) terms back joins
  served-all hub terms visitors back joins set hashed are same settled here visits =
      subst (λ vs. ServedAll terms_of number_of peer_of began reports may_read setup (digest hash) terms vs joins) (sym same) record {
        settled = settled-of digest hub.setup setup hub.hash hash set hashed visitors joins settled;
        here = subst (λ (h : HubState H). All (λ (v : VisitorState H). v.home ≡ h.home) visitors) (sym are) here;
        visits = visits;
      }
