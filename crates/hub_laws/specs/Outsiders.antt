-- A connection whose user is not present hears nothing of what others do: no message, no entry, no departure.
use Rattle.std.specs.Prelude.{◌≡◌, ℕ, false, List, ◌∷◌}
use Rattle.login_state.specs.declared.stage.Stage.TheVariants.{Normal}
use Rattle.hub_rules.specs.declared.history.Entry.{Entry}
use Rattle.hub_rules.specs.Configured.{Configured}
use Rattle.hub_rules.specs.History.{lines_owed, stage}
use Rattle.hub_laws.specs.SenderOrder.{is_of}

-- an entry that is neither a line nor the quit of this connection adds nothing to what it is owed
abbrev pub OutsidersHearNothing : Type 0
OutsidersHearNothing =
    (setup : Configured) (hash : List ℕ → List ℕ) (h : List Entry) (e : Entry) (d : ℕ) → (stage setup hash h d ≡ Normal → ⊥) → is_of d e.call ≡ false
    → lines_owed setup hash (e ∷ h) d ≡ lines_owed setup hash h d
