-- A server that stopped by its terms.
use Rattle.std.proofs.Common.{◌≡◌, ℕ, true, Result, Ok, Err, is_ok, sym, subst}
use Rattle.std.proofs.lemmas.Bool.{false≢true}
use Rattle.std.specs.Prelude.{IfOk}
use Rattle.hub_connections.specs.Stop.{HasStopped}
use Rattle.hub_connections.specs.declared.terms.Terms.{Terms}

-- the terms that are given back are those by which it stopped
pub stopped-of : {I H R X E : Type 0} (terms_of : I → Terms H R) (accepted : I → ℕ) (stop_after : ℕ) (terms : Terms H R) (its : X → Terms H R) (result : Result X E)
    → IfOk result (λ it. its it ≡ terms) → ∥ HasStopped terms_of accepted terms stop_after ∥₁ → IfOk result (λ it. ∥ HasStopped terms_of accepted (its it) stop_after ∥₁)
stopped-of terms_of accepted stop_after terms its (Ok it) same is = subst (λ t. ∥ HasStopped terms_of accepted t stop_after ∥₁) (sym same) is
stopped-of terms_of accepted stop_after terms its (Err fault) same is = tt

-- what holds of a result that is well
pub of-well : {X E P : Type 0} (result : Result X E) → is_ok result ≡ true → IfOk result (λ _. P) → P
of-well (Ok it) well holds = holds
of-well (Err fault) well holds = absurd (false≢true well)
