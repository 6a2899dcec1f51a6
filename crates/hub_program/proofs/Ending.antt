-- The end of a server that was asked for.
use Rattle.std.proofs.Common.{◌≡◌, ℕ, List, Option, Result, Ok, Err, IfOk, IfErr, MatchResult, inl, inr, subst, sym}
use Rattle.counted_io.specs.Parts.{AppendsFront}
use Rattle.hub_program.specs.Starting.{EndsServer}
use Rattle.hub_server.specs.ServerEnd.{EndsServing}
use Rattle.hub_startup.specs.Endings.{KeepsFromStarting, status_by, message_by}
use Rattle.hub_startup.specs.declared.fault.StartFault.{StartFault}

pub ends-server : {E : Type 0} (contents : E → Option (List ℕ)) (served : Result ℕ StartFault) (old new : E) (status : ℕ) → IfErr served KeepsFromStarting → IfOk served (EndsServing contents old)
    → MatchResult served (λ its. status ≡ its) (λ fault. status ≡ status_by fault)
    → MatchResult served (λ _. new ≡ old) (λ fault. AppendsFront (contents old) (contents new) (message_by fault)) → EndsServer contents new status
ends-server contents (Ok its) old new status kept ends is said =
    inr (subst (λ errors. EndsServing contents errors status) (sym said) (subst (λ n. EndsServing contents old n) (sym is) ends))
ends-server contents (Err fault) old new status kept ends is said = inl (fault, kept, is, (old, said))
