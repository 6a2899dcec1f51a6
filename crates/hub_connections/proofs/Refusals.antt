-- What was written at once, whether it failed or not, and why a connection was refused.
use Rattle.std.proofs.Common.{◌≡◌, ℕ, List, [], Result, Ok, Err, take, subst, sym}
use Rattle.std.specs.Prelude.{IfOk, IfErr}
use Rattle.hub_connections.specs.JoinRefusals.{WasRefused}
use Rattle.hub_shared.specs.Callers.{VisitorState}

-- it is the first of what was to be written
pub wrote-first : {S E : Type 0} (writes : S → List ℕ → S → Type 0) (a b : S) (bytes : List ℕ) (r : Result ℕ E)
    → IfOk r (λ count. writes a (take count bytes) b) → IfErr r (λ _. writes a [] b) → ∥ ((count : ℕ) × writes a (take count bytes) b) ∥₁
wrote-first writes a b bytes (Ok count) ok err = ∣ (count, ok) ∣₁
wrote-first writes a b bytes (Err error) ok err = ∣ (0, err) ∣₁

-- a join was refused, whatever its address, its challenge and its visitor are called
pub refused-for : {H : Type 0} (peer peer' challenge challenge' : List ℕ) (visitor visitor' : VisitorState H) → peer' ≡ peer → challenge ≡ challenge' → visitor' ≡ visitor
    → WasRefused peer challenge visitor → WasRefused peer' challenge' visitor'
refused-for peer peer' challenge challenge' visitor visitor' from dealt same refused =
    subst (λ it. WasRefused it challenge' visitor') (sym from)
    (subst (λ it. WasRefused peer it visitor') dealt (subst (λ it. WasRefused peer challenge it) (sym same) refused))
