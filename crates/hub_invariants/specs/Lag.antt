-- The lines that a connection is owed over a whole history, and when it lags.
use Rattle.std.specs.Prelude.{◌≡◌, ℕ, ◌==◌, ◌&&◌, not, Bool, true, List, [], ◌∷◌, ◌++◌, drop, if◌then◌else◌}
use Rattle.hub_rules.specs.declared.history.Call.{Call}
use Rattle.hub_rules.specs.declared.history.Call.TheVariants.{Line, Quit}
use Rattle.hub_rules.specs.declared.history.Entry.{Entry}
use Rattle.hub_rules.specs.Configured.{Configured}
use Rattle.hub_rules.specs.Effects.{departure}
use Rattle.hub_rules.specs.Facts.{Facts, effect_of_line, facts}
use Rattle.hub_rules.specs.History.{lags, lines_owed, count_taken}
use Rattle.hub_rules.specs.Shares.{has_room_for, owes}

-- the lines that a call owes connection d
abbrev pub share : Configured → (List ℕ → List ℕ) → Facts → ℕ → Call → List (List ℕ)
share setup hash f d (Line c bytes now) = owes (d == c) (effect_of_line setup hash f c bytes now) (f.about d)
share setup hash f d (Quit c) = owes (d == c) (departure (f.about c).stage (f.about c).sender.sid) (f.about d)
share setup hash f d call = []

-- each share so far fitted when it came: with what was owed before and not taken yet, it was within the limits
unfoldable pub all_fit : Configured → (List ℕ → List ℕ) → List Entry → ℕ → Bool
all_fit setup hash [] d = true
all_fit setup hash (e ∷ h) d =
    all_fit setup hash h d && has_room_for (drop (count_taken setup hash h d) (lines_owed setup hash h d)) (share setup hash (facts setup hash h) d e.call)

-- the shares in order, up to the first that did not fit
unfoldable pub shares_that_fit : Configured → (List ℕ → List ℕ) → List Entry → ℕ → List (List ℕ)
shares_that_fit setup hash [] d = []
shares_that_fit setup hash (e ∷ h) d =
    shares_that_fit setup hash h d ++ (if all_fit setup hash (e ∷ h) d then share setup hash (facts setup hash h) d e.call else [])

-- a connection lags from the first share on that did not fit
abbrev pub LagIsTheFirst : Type 0
LagIsTheFirst = (setup : Configured) (hash : List ℕ → List ℕ) (h : List Entry) (d : ℕ) → lags setup hash h d ≡ not (all_fit setup hash h d)

-- it is owed the shares before that one, in order
abbrev pub OwedAreShares : Type 0
OwedAreShares = (setup : Configured) (hash : List ℕ → List ℕ) (h : List Entry) (d : ℕ) → lines_owed setup hash h d ≡ shares_that_fit setup hash h d
