-- The answer of checks in a written order: the first denial.
use Rattle.std.specs.Prelude.{◌≡◌, List, [], ◌∷◌, ◌++◌, Option, Some, None}
use Rattle.std.specs.List.{All}
use Rattle.login_state.specs.declared.checks.Check.{Check}
use Rattle.login_state.specs.declared.checks.Check.TheVariants as checks
use Rattle.login_state.specs.declared.deny.Deny.{Deny}

-- each check denies, or it does not
abbrev pub first_denial : List (Option Deny) → Check
first_denial [] = checks.Go
first_denial (None ∷ rules) = first_denial rules
first_denial (Some deny ∷ rules) = checks.Deny deny

-- no check denies; or one does, and none before it
abbrev pub IsFirstDenial : Check → List (Option Deny) → Type 0
IsFirstDenial checks.Go rules = All (λ rule. rule ≡ None) rules
IsFirstDenial (checks.Deny deny) rules =
    (before : List (Option Deny)) × (after : List (Option Deny)) × (rules ≡ before ++ Some deny ∷ after) × All (λ rule. rule ≡ None) before
