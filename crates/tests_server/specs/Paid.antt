-- A server that has served all, and was written to each what the rules owe it.
use Rattle.std.specs.Prelude.{ℕ, List, Option}
use Rattle.std.specs.List.{All}
use Rattle.std.specs.declared.net.socket_addr.SocketAddrV4.{SocketAddrV4}
use Rattle.adc_sessions.specs.Events.{StreamCall}
use Rattle.hub_rules.specs.Configured.{Configured}
use Rattle.hub_server.specs.ServerEnd.{HasServed}
use Rattle.hub_connections.specs.Arrivals.{Arrives}
use Rattle.hub_connections.specs.declared.terms.Terms.{Terms}
use Rattle.server_laws.specs.Written.{HasBeenPaid}

-- what tickets say, what a stream tells of its calls, the terms of a listener and how many it accepted, the moments of a clock, and what a writer holds
module _ {H C T S I W : Type 0} (terms_of : T → Terms H C) (number_of : T → ℕ) (peer_of : T → List ℕ) (began : T → S) (reports : S → StreamCall → S → Type 0)
    (port_terms : I → Terms H C) (accepted : I → ℕ) (may_read : C → ℕ → Type 0) (contents : W → Option (List ℕ)) where
  -- each visit of each visitor is paid, in the one history of the hub whose joins this output reports
  pub record HasPaid (setup : Configured) (digest : H → List ℕ → List ℕ) (hash : H) (clock : C) (seed : List ℕ) (place : SocketAddrV4) (stop_after : ℕ) (output : W) (joins : ℕ) : Type 0 where
    pub served : HasServed terms_of number_of peer_of began reports port_terms accepted may_read contents setup digest hash clock seed place stop_after output joins
    pub paid : All (HasBeenPaid reports (may_read clock) (Arrives terms_of number_of peer_of began served.terms) setup (digest hash) served.all.settled.log) served.visitors
