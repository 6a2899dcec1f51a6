-- Facts after a call that was refused.
use Rattle.std.proofs.Common.{◌≡◌, sym, subst}
use Rattle.std.specs.Prelude.{Result, Ok, Err, IfErr, OnErr}
use Rattle.std.specs.Result.{IsErrAnd}

-- whatever the refusal is
pub at_refusal : {T E P : Type 0} (answer : Result T E) → P → OnErr answer P
at_refusal (Ok x) p = tt
at_refusal (Err e) p = p

-- as it is this one
pub refused_by : {T E : Type 0} (answer : Result T E) (refusal : E) (P : E → Type 0) → IsErrAnd answer (λ given. given ≡ refusal) → P refusal → IfErr answer P
refused_by (Ok x) refusal P given p = tt
refused_by (Err e) refusal P given p = subst P (sym given) p
