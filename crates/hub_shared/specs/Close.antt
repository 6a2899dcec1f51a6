-- The knowledge of the host once all visitors came back.
use Rattle.std.specs.Prelude.{◌≡◌, ℕ, false, List, [], map}
use Rattle.std.specs.List.{All, Contains}
use Rattle.one_history.specs.Histories.{Begins}
use Rattle.hub_rules.specs.declared.history.Entry.{Entry}
use Rattle.hub_rules.specs.Configured.{Configured}
use Rattle.hub_rules.specs.Facts.{facts}
use Rattle.hub_rules.specs.History.{present}
use Rattle.hub_rules.specs.Legal.{Legal}
use Rattle.hub_shared.specs.Callers.{VisitorState}
use Rattle.hub_shared.specs.Connections.{entries_of, has_stayed}

module _ {H : Type 0} where
  -- There is one history, the log: it is legal, it begins with all that each visitor had seen, each visitor's entries in it are its
  -- own, and it has no entry of anybody else. So many joins were accepted in it, and nobody is present after it.
  pub record Settled (setup : Configured) (hash : List ℕ → List ℕ) (visitors : List (VisitorState H)) (joins : ℕ) : Type 0 where
    pub log : List Entry
    pub legal : Legal setup hash log
    pub begins : All (λ (v : VisitorState H). Begins log v.caller.seen) visitors
    pub own : All (λ (v : VisitorState H). entries_of v.caller.number log ≡ v.caller.mine) visitors
    pub only : All (λ (e : Entry). Contains (map (λ (v : VisitorState H). v.caller.number) visitors) e.caller) log
    pub counted : joins ≡ (facts setup hash log).joins
    pub nobody : present setup hash log ≡ []

-- every connection that joined in these entries has quit
abbrev pub HasQuit : List Entry → Type 0
HasQuit mine = (d : ℕ) → has_stayed d mine ≡ false
