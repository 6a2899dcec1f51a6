-- In which order users entered.
use Rattle.std.specs.Prelude.{◌≡◌, ℕ, ◌&&◌, not, List, [], ◌∷◌, ◌++◌, filter, if◌then◌else◌}
use Rattle.hub_rules.specs.declared.history.Call.{Call}
use Rattle.hub_rules.specs.declared.history.Call.TheVariants.{Line}
use Rattle.hub_rules.specs.declared.history.Entry.{Entry}
use Rattle.hub_rules.specs.Configured.{Configured}
use Rattle.hub_rules.specs.Effects.{is_present}
use Rattle.hub_rules.specs.Facts.{Facts, facts, after}
use Rattle.hub_rules.specs.History.{present, stage}

-- the connection that a call brings in: it is not at the stage of users before, and is after
abbrev pub brought_in : Configured → (List ℕ → List ℕ) → Facts → ℕ → Call → List ℕ
brought_in setup hash f caller (Line c bytes now) =
    (if not (is_present (f.about c).stage) && is_present ((after setup hash f caller (Line c bytes now)).about c).stage then c ∷ [] else [])
brought_in setup hash f caller call = []

-- the connections that ever entered, in the order of the entries by which they did
unfoldable pub entrants : Configured → (List ℕ → List ℕ) → List Entry → List ℕ
entrants setup hash [] = []
entrants setup hash (e ∷ h) = entrants setup hash h ++ brought_in setup hash (facts setup hash h) e.caller e.call

-- those who are present stand in that order
abbrev pub PresentInOrder : Type 0
PresentInOrder =
    (setup : Configured) (hash : List ℕ → List ℕ) (h : List Entry)
    → present setup hash h ≡ filter (λ c. is_present (stage setup hash h c)) (entrants setup hash h)
