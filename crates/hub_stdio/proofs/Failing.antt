-- The calls of a writer that failed, over the steps of a run.
use Rattle.std.proofs.Common.{◌≡◌, ◌∙◌, sym, subst}
use Rattle.std.specs.Prelude.{Result, Ok, Err}
use Rattle.std.specs.Result.{IsErrAnd}
use Rattle.counted_io.specs.Calls.{NoneFailed}
use Rattle.counted_io.specs.declared.failures.Failures.{Failures}
use Rattle.counted_io.proofs.Failing.{last-after}
use Rattle.hub_stdio.specs.declared.fault.RunFault.{RunFault}
use Rattle.hub_stdio.specs.declared.fault.RunFault.TheVariants as faults
use Rattle.hub_stdio.specs.Serving.{WritesStop, WritesEnd}

-- after calls that did not fail
pub stop_after : (fault : RunFault) (a b c : Failures) → NoneFailed a b → WritesStop fault b c → WritesStop fault a c
stop_after faults.Memory a b c none stops = stops ∙ none
stop_after faults.Read a b c none stops = stops ∙ none
stop_after faults.Write a b c none stops = last-after a b c none stops
stop_after faults.TooLong a b c none stops = stops ∙ none
stop_after faults.Turns a b c none stops = stops ∙ none

-- as the answer is this fault
pub end_by : {T : Type 0} (answer : Result T RunFault) (fault : RunFault) (a b : Failures) → IsErrAnd answer (λ given. given ≡ fault) → WritesStop fault a b → WritesEnd answer a b
end_by (Ok x) fault a b given stops = absurd given
end_by (Err e) fault a b given stops = subst (λ (f : RunFault). WritesStop f a b) (sym given) stops
