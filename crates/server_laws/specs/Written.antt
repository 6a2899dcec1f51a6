-- What was written to each connection that a server served is the first of what the rules owe that connection.
use Rattle.std.specs.Prelude.{◌≡◌, ℕ, true, List, ◌++◌, take, ⊤}
use Rattle.std.specs.List.{All, concat}
use Rattle.adc_sessions.specs.declared.ending.End.{End}
use Rattle.adc_sessions.specs.declared.ending.End.TheVariants as ends
use Rattle.adc_sessions.specs.Events.{StreamCall, Event, all_written}
use Rattle.adc_sessions.specs.Served.{wrote_all}
use Rattle.hub_rules.specs.declared.history.Entry.{Entry}
use Rattle.hub_rules.specs.Configured.{Configured}
use Rattle.hub_rules.specs.History.{lines_owed, count_taken}
use Rattle.hub_rules.specs.Legal.{Legal}
use Rattle.hub_connections.specs.Arrivals.{Arrives}
use Rattle.hub_server.specs.ServedAll.{ServedAll}
use Rattle.hub_connections.specs.Visits.{Visit, join_refused, joined_only, served, AreVisits}
use Rattle.hub_connections.specs.declared.terms.Terms.{Terms}
use Rattle.hub_shared.specs.Callers.{VisitorState}
use Rattle.hub_shared.specs.Connections.{entries_of}

-- the setup of a hub, what its hash means, and its history
module _ (setup : Configured) (hash : List ℕ → List ℕ) (log : List Entry) where
  -- what a session wrote by these events, which served this connection until this end, is the first of what it is owed
  pub record IsOwed (connection : ℕ) (end : End) (events : List Event) : Type 0 where
    -- the bytes written are the first of those of the lines that it is owed
    pub first : (more : List ℕ) × (concat (lines_owed setup hash log connection) ≡ all_written events ++ more)
    -- at an end behind which nothing waits to be written, they are those of all lines that it took
    pub whole : wrote_all end ≡ true → all_written events ≡ concat (take (count_taken setup hash log connection) (lines_owed setup hash log connection))
    -- where the hub said that nothing will follow, they are those of all lines that it is owed
    pub all : end ≡ ends.Ended → all_written events ≡ concat (lines_owed setup hash log connection)

  -- that holds of the connection of a visit, where one was served
  abbrev pub IsFirstOfOwed : Visit → Type 0
  IsFirstOfOwed (join_refused peer challenge now reply) = ⊤
  IsFirstOfOwed (joined_only peer challenge now connection) = ⊤
  IsFirstOfOwed (served peer challenge now connection end events calls) = IsOwed connection end events

-- what a stream tells of its calls, the moments that a clock tells, and who came
module _ {S : Type 0} (reports : S → StreamCall → S → Type 0) (may_read : ℕ → Type 0) (arrives : List ℕ → List ℕ → S → Type 0) where
  -- in a legal history each visit is paid, however the calls of a caller are read as visits
  abbrev pub EachWroteTheFirst : Type 0
  EachWroteTheFirst =
      (setup : Configured) (hash : List ℕ → List ℕ) (log : List Entry) → Legal setup hash log
      → (caller : ℕ) (its : AreVisits reports may_read arrives caller (entries_of caller log)) → All (IsFirstOfOwed setup hash log) its.visits

  -- the calls of a visitor are visits, each of which is paid
  abbrev pub HasBeenPaid : {H : Type 0} → Configured → (List ℕ → List ℕ) → List Entry → VisitorState H → Type 0
  HasBeenPaid setup hash log visitor =
      ∥ ((its : AreVisits reports may_read arrives visitor.caller.number visitor.caller.mine) × All (IsFirstOfOwed setup hash log) its.visits) ∥₁

-- what the tickets of connections say; what a stream tells of its calls, and the moments that a clock tells
module _ {H R T S : Type 0} (terms_of : T → Terms H R) (number_of : T → ℕ) (peer_of : T → List ℕ) (began : T → S) (reports : S → StreamCall → S → Type 0) (may_read : ℕ → Type 0) where
  -- in the history of a server that has closed its hub each visit of each visitor is paid
  abbrev pub WrittenIsOwed : Type 0
  WrittenIsOwed =
      (setup : Configured) (hash : List ℕ → List ℕ) (terms : Terms H R) (visitors : List (VisitorState H)) (joins : ℕ)
      (all : ServedAll terms_of number_of peer_of began reports may_read setup hash terms visitors joins)
      → All (HasBeenPaid reports may_read (Arrives terms_of number_of peer_of began terms) setup hash all.settled.log) visitors
