-- All who are present hear once of a user who leaves, or who is shut out for its own line.
use Rattle.std.specs.Prelude.{◌≡◌, ℕ, ◌==◌, false, List, [], ◌∷◌}
use Rattle.login_state.specs.declared.stage.Stage.TheVariants.{Normal}
use Rattle.outboxes.specs.Quits.{quit_line}
use Rattle.hub_rules.specs.declared.effect.Change.TheVariants.{Hub}
use Rattle.hub_rules.specs.declared.effect.HubChange.{HubChange}
use Rattle.hub_rules.specs.declared.history.Entry.{Entry}
use Rattle.hub_rules.specs.Configured.{Configured}
use Rattle.hub_rules.specs.Facts.{facts}
use Rattle.hub_rules.specs.History.{sid, stage}
use Rattle.hub_invariants.specs.Lag.{share}
use Rattle.hub_invariants.specs.World.{change_of}

-- where a user is present no more after a call that is no operator's act, each other who was present is owed that this one left, and nothing else
abbrev pub DeparturesAreHeard : Type 0
DeparturesAreHeard =
    (setup : Configured) (hash : List ℕ → List ℕ) (h : List Entry) (e : Entry) (c d : ℕ) → stage setup hash h c ≡ Normal
    → (stage setup hash (e ∷ h) c ≡ Normal → ⊥)
    → ((act : HubChange) → change_of setup hash (facts setup hash h) e.call ≡ Hub act → ⊥) → stage setup hash h d ≡ Normal → (d == c) ≡ false
    → share setup hash (facts setup hash h) d e.call ≡ quit_line (sid setup hash h c) ∷ []
