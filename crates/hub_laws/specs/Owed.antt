-- The lines that one entry owes a connection: behind all that it was owed before, or none of them, where it lags.
use Rattle.std.specs.Prelude.{◌≡◌, ℕ, true, false, List, ◌∷◌, ◌++◌}
use Rattle.hub_rules.specs.declared.history.Entry.{Entry}
use Rattle.hub_rules.specs.Configured.{Configured}
use Rattle.hub_rules.specs.History.{lags, lines_owed}

-- the entry e, after the history h, owes connection d these lines and no others
pub record IsOwed (setup : Configured) (hash : List ℕ → List ℕ) (h : List Entry) (e : Entry) (d : ℕ) (lines : List (List ℕ)) : Type 0 where
  pub told : lags setup hash (e ∷ h) d ≡ false → lines_owed setup hash (e ∷ h) d ≡ lines_owed setup hash h d ++ lines
  pub lagging : lags setup hash (e ∷ h) d ≡ true → lines_owed setup hash (e ∷ h) d ≡ lines_owed setup hash h d
