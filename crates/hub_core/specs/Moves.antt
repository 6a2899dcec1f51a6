-- The promise of each call of the hub.
use Rattle.std.specs.Prelude.{◌≡◌, ℕ, List, ◌∷◌}
use Rattle.hub_core.specs.CoreState.{CoreState}
use Rattle.hub_core.specs.State.{Stands}
use Rattle.hub_rules.specs.declared.history.Call.{Call}
use Rattle.hub_rules.specs.declared.history.Call.TheVariants.{Line}
use Rattle.hub_rules.specs.declared.history.Entry.{Entry}
use Rattle.hub_rules.specs.declared.history.Reply.{Reply}
use Rattle.hub_rules.specs.declared.history.Reply.TheVariants.{Said}
use Rattle.hub_rules.specs.declared.history.Verdict.{Verdict}
use Rattle.hub_rules.specs.Configured.{Configured}
use Rattle.hub_rules.specs.Facts.{facts}
use Rattle.hub_rules.specs.Legal.{Legal, MayCall}
use Rattle.hub_rules.specs.Prepared.{prepared_line}
use Rattle.hub_rules.specs.Views.{PreparedLine}

abbrev pub entry : ℕ → Call → Reply → Entry
entry caller call reply = record { caller = caller; call = call; reply = reply }

-- a hub that is as a legal history has made it
pub record StandsAt (setup : Configured) (hash : List ℕ → List ℕ) (h : List Entry) (core : CoreState) : Type 0 where
  pub legal : Legal setup hash h
  pub stands : Stands setup hash h core

-- Whatever legal history the hub stood at: if the caller may make the call, the history with this call and this answer
-- is legal, and the hub stands at it.
abbrev pub Moves : CoreState → Call → Reply → CoreState → Type 0
Moves old call reply new =
    (setup : Configured) (hash : List ℕ → List ℕ) (h : List Entry) (caller : ℕ) → StandsAt setup hash h old → MayCall (facts setup hash h) caller call
    → StandsAt setup hash (entry caller call reply ∷ h) new

-- `Moves` of a line that was made ready for this connection: by this setup and hash, and with its challenge.
abbrev pub LineMoves : CoreState → ℕ → PreparedLine → ℕ → Verdict → CoreState → Type 0
LineMoves old connection line now verdict new =
    (setup : Configured) (hash : List ℕ → List ℕ) (h : List Entry) (caller : ℕ) → StandsAt setup hash h old
    → MayCall (facts setup hash h) caller (Line connection line.bytes now)
    → line ≡ prepared_line setup hash ((facts setup hash h).about connection).sender.challenge line.bytes
    → StandsAt setup hash (entry caller (Line connection line.bytes now) (Said verdict) ∷ h) new
