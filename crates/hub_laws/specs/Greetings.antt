-- Who greets the hub is told the topic that holds: the one that an operator set last, or that of the settings.
use Rattle.std.specs.Prelude.{◌≡◌, ℕ, List, [], ◌∷◌}
use Rattle.login_state.specs.declared.stage.Stage.TheVariants.{Identify, Protocol}
use Rattle.hub_rules.specs.declared.history.Entry.{Entry}
use Rattle.hub_rules.specs.Configured.{Configured}
use Rattle.hub_rules.specs.History.{sid, stage}
use Rattle.hub_rules.specs.Texts.{hub_line, identifier_line, support_line}
use Rattle.hub_invariants.specs.World.{last_topic}
use Rattle.hub_laws.specs.Owed.{IsOwed}

-- the entry that brings a connection from PROTOCOL to IDENTIFY owes it what the hub supports, its identifier, and the hub's name and topic, with what it asked for (PING)
abbrev pub NewcomersHearTheTopic : Type 0
NewcomersHearTheTopic =
    (setup : Configured) (hash : List ℕ → List ℕ) (h : List Entry) (e : Entry) (c : ℕ) → stage setup hash h c ≡ Protocol → stage setup hash (e ∷ h) c ≡ Identify
    → (ping : List ℕ) × IsOwed setup hash h e c (support_line ∷ identifier_line (sid setup hash h c) ∷ hub_line setup (last_topic setup hash h) ping ∷ [])
