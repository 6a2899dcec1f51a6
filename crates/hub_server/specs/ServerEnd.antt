-- The end of a server: its status, what it says, and what it reports where it has served all.
use Rattle.std.specs.Prelude.{◌≡◌, ◌⊎◌, ℕ, List, ◌++◌, codes, Option}
use Rattle.std.specs.Fmt.{decimal}
use Rattle.std.specs.Io.KnownBytes.{Appends}
use Rattle.std.specs.declared.net.socket_addr.SocketAddrV4.{SocketAddrV4}
use Rattle.adc_sessions.specs.Events.{StreamCall}
use Rattle.counted_io.specs.Parts.{AppendsFront}
use Rattle.hub_connections.specs.Faults.{IsServerFault}
use Rattle.hub_endings.specs.Endings.{status_of, message_of}
use Rattle.hub_endings.specs.declared.ending.Ending.{Ending}
use Rattle.hub_endings.specs.declared.ending.Ending.TheVariants as endings
use Rattle.hub_rules.specs.Configured.{Configured}
use Rattle.hub_server.specs.ServedAll.{ServedAll}
use Rattle.hub_connections.specs.Stop.{HasStopped}
use Rattle.hub_connections.specs.declared.terms.Terms.{Terms}
use Rattle.hub_shared.specs.Callers.{VisitorState}

abbrev pub IsServerEnding : Ending → Type 0
IsServerEnding ending = (ending ≡ endings.Served) ⊎ IsServerFault ending

-- the status is that of such an ending, and the last that was said is its line, or the front of it
abbrev pub EndsServing : {E : Type 0} → (E → Option (List ℕ)) → E → ℕ → Type 0
EndsServing {E} contents errors status =
    (ending : Ending) × IsServerEnding ending × (status ≡ status_of ending) × ((before : E) × AppendsFront (contents before) (contents errors) (message_of ending))

-- the line about the joins that were accepted, and those who are present
abbrev pub report_line : ℕ → ℕ → List ℕ
report_line joins present = codes "joins " ++ (decimal joins ++ (codes " present " ++ (decimal present ++ codes "\n")))

-- what was written last is that line, with nobody present
abbrev pub Reports : {W : Type 0} → (W → Option (List ℕ)) → W → ℕ → Type 0
Reports {W} contents output joins = (before : W) × Appends (contents before) (contents output) (report_line joins 0)

-- what tickets say, what a stream tells of its calls, the terms of a listener and how many it accepted, the moments of a clock, and what a writer holds
module _ {H C T S I W : Type 0} (terms_of : T → Terms H C) (number_of : T → ℕ) (peer_of : T → List ℕ) (began : T → S) (reports : S → StreamCall → S → Type 0)
    (port_terms : I → Terms H C) (accepted : I → ℕ) (may_read : C → ℕ → Type 0) (contents : W → Option (List ℕ)) where
  -- a server of this setup, with this hash, clock and seed, which listened at this place, has served as many connections as it was to accept, and this output reports its joins
  pub record HasServed (setup : Configured) (digest : H → List ℕ → List ℕ) (hash : H) (clock : C) (seed : List ℕ) (place : SocketAddrV4) (stop_after : ℕ) (output : W) (joins : ℕ) : Type 0 where
    pub terms : Terms H C
    pub by_setup : terms.setup.value ≡ setup
    pub by_hash : terms.hash.value ≡ hash
    pub by_clock : terms.clock.value ≡ clock
    pub by_seed : terms.seed.value ≡ seed
    pub by_place : terms.place.value ≡ place
    pub visitors : List (VisitorState H)
    pub all : ServedAll terms_of number_of peer_of began reports (may_read clock) setup (digest hash) terms visitors joins
    pub stopped : ∥ HasStopped port_terms accepted terms stop_after ∥₁
    pub reported : Reports contents output joins
