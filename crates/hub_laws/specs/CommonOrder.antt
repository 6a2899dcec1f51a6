-- All hear what others do in one order, that of the entries; and of one entry any two who hear something hear the same lines.
use Rattle.std.specs.Prelude.{◌≡◌, ℕ, false, List, [], ◌∷◌, ◌++◌}
use Rattle.hub_rules.specs.declared.history.Entry.{Entry}
use Rattle.hub_rules.specs.Configured.{Configured}
use Rattle.hub_rules.specs.History.{lines_owed}
use Rattle.hub_laws.specs.SenderOrder.{is_of, lines_added}

-- what an entry added to the lines that each connection is owed stands before all that a later entry added
abbrev pub AllHearInOneOrder : Type 0
AllHearInOneOrder =
    (setup : Configured) (hash : List ℕ → List ℕ) (later between h : List Entry) (first second : Entry) (d : ℕ)
    → (before : List (List ℕ)) × (amid : List (List ℕ)) × (behind : List (List ℕ))
    × (lines_owed setup hash (later ++ (second ∷ (between ++ (first ∷ h)))) d
    ≡ before ++ lines_added setup hash h first d ++ amid ++ lines_added setup hash (between ++ (first ∷ h)) second d ++ behind)

-- of an entry that is neither's own line or quit, two connections that hear something hear the same
abbrev pub AllHearTheSame : Type 0
AllHearTheSame =
    (setup : Configured) (hash : List ℕ → List ℕ) (h : List Entry) (e : Entry) (c d : ℕ) → is_of c e.call ≡ false → is_of d e.call ≡ false
    → (lines_added setup hash h e c ≡ [] → ⊥) → (lines_added setup hash h e d ≡ [] → ⊥)
    → lines_added setup hash h e c ≡ lines_added setup hash h e d
