-- The first denial of some checks, by what stands before it.
use Rattle.std.proofs.Common.{◌≡◌, refl, ap, sym, subst, List, [], ◌∷◌}
use Rattle.std.specs.Prelude.{Option, Some, None}
use Rattle.std.proofs.lemmas.List.Elements.{All-nil, All-cons}
use Rattle.login_state.specs.declared.checks.Check.{Check}
use Rattle.login_state.specs.declared.checks.Check.TheVariants as checks
use Rattle.login_state.specs.declared.deny.Deny.{Deny}
use Rattle.login_state.specs.Checks.{first_denial, IsFirstDenial}

-- a check before it that does not deny changes nothing
past : (check : Check) (rules : List (Option Deny)) → IsFirstDenial check rules → IsFirstDenial check (None ∷ rules)
past checks.Go rules all = All-cons (λ rule. rule ≡ None) None rules refl all
past (checks.Deny deny) rules found =
    (None ∷ found.0, found.1, ap (λ more. None ∷ more) found.2, All-cons (λ rule. rule ≡ None) None found.0 refl found.3)

first-is_first : (rules : List (Option Deny)) → IsFirstDenial (first_denial rules) rules
first-is_first [] = All-nil (λ rule. rule ≡ None)
first-is_first (None ∷ rules) = past (first_denial rules) rules (first-is_first rules)
first-is_first (Some deny ∷ rules) = ([], rules, refl, All-nil (λ rule. rule ≡ None))

pub is_first : (check : Check) (rules : List (Option Deny)) → check ≡ first_denial rules → IsFirstDenial check rules
is_first check rules e = subst (λ answer. IsFirstDenial answer rules) (sym e) (first-is_first rules)
