-- The knowledge of the host once all callers have given their seats back.
use Rattle.std.specs.Prelude.{◌≡◌, ℕ, List, map}
use Rattle.std.specs.List.{All, Contains}
use Rattle.one_history.specs.Histories.{Begins, entries}
use Rattle.one_history.specs.States.{Caller}

module _ {E : Type 0} where
  abbrev pub numbers : List (Caller E) → List ℕ
  numbers callers = map (λ g. g.number) callers

  -- There is one history, the log: it is legal, the value rests at it, it begins with all that each caller had seen, each caller's entries in it are its own, and it has no entry of anybody else
  pub record Settles (by : E → ℕ) (legal rests : List E → Type 0) (callers : List (Caller E)) : Type 0 where
    pub log : List E
    pub lawful : legal log
    pub stands : rests log
    pub begins : All (λ g. Begins log g.seen) callers
    pub own : All (λ g. entries by g.number log ≡ g.mine) callers
    pub only : All (λ e. Contains (numbers callers) (by e)) log
