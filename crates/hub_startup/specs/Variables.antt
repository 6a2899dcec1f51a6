-- Whether a variable of the environment is set.
use Rattle.std.specs.Prelude.{◌≡◌, ℕ, Bool, true, false, Result, Ok, Err}
use Rattle.std.specs.declared.env.FillError.{FillError}
use Rattle.std.specs.declared.env.FillError.TheVariants.{NotPresent, TooLong}

-- it is unless it is not present
abbrev pub TellsWhetherSet : Result ℕ FillError → Bool → Type 0
TellsWhetherSet (Ok count) is_set = is_set ≡ true
TellsWhetherSet (Err NotPresent) is_set = is_set ≡ false
TellsWhetherSet (Err TooLong) is_set = is_set ≡ true
