-- A connection that is shut out hears nothing more, and stays out; an operator's kick or ban shuts out the user whom it names.
use Rattle.std.specs.Prelude.{◌≡◌, ◌⊎◌, ◌≤◌, ℕ, List, [], ◌∷◌, ◌++◌}
use Rattle.login_state.specs.declared.stage.Stage.TheVariants.{Gone, Normal}
use Rattle.hub_rules.specs.declared.effect.Banned.{Banned}
use Rattle.hub_rules.specs.declared.effect.Change.TheVariants.{Hub}
use Rattle.hub_rules.specs.declared.effect.HubChange.TheVariants.{At, Ban}
use Rattle.hub_rules.specs.declared.sender.SeatChange.TheVariants as seats
use Rattle.hub_rules.specs.declared.history.Call.{Call}
use Rattle.hub_rules.specs.declared.history.Entry.{Entry}
use Rattle.hub_rules.specs.Configured.{Configured}
use Rattle.hub_rules.specs.Facts.{facts}
use Rattle.hub_rules.specs.History.{sid, stage}
use Rattle.hub_invariants.specs.Lag.{share}
use Rattle.hub_invariants.specs.World.{change_of}

-- a connection that is shut out is owed nothing by any call
abbrev pub WhoIsOutHearsNothing : Type 0
WhoIsOutHearsNothing =
    (setup : Configured) (hash : List ℕ → List ℕ) (h : List Entry) (d : ℕ) (call : Call) → stage setup hash h d ≡ Gone → share setup hash (facts setup hash h) d call ≡ []

-- a connection that joined and is shut out stays so, whatever comes later
abbrev pub OutIsForGood : Type 0
OutIsForGood =
    (setup : Configured) (hash : List ℕ → List ℕ) (later h : List Entry) (d : ℕ) → d ≤ (facts setup hash h).joins → stage setup hash h d ≡ Gone
    → stage setup hash (later ++ h) d ≡ Gone

-- a call whose act is a kick or a ban of a user who is present shuts that user's connection out
abbrev pub KicksShutOut : Type 0
KicksShutOut =
    (setup : Configured) (hash : List ℕ → List ℕ) (h : List Entry) (e : Entry) (d : ℕ) (banned : Banned) → stage setup hash h d ≡ Normal
    → (change_of setup hash (facts setup hash h) e.call ≡ Hub (At (sid setup hash h d) seats.Gone))
    ⊎ ((change_of setup hash (facts setup hash h) e.call ≡ Hub (Ban banned)) × (banned.sid ≡ sid setup hash h d))
    → stage setup hash (e ∷ h) d ≡ Gone
