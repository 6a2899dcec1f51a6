-- Calls that failed after some that did not.
use Rattle.std.proofs.Common.{◌∙◌, ◌+◌, ap}
use Rattle.std.specs.Prelude.{Result, Ok, Err}
use Rattle.std.specs.Io.Iter.{u64_saturate}
use Rattle.counted_io.specs.Calls.{NoneFailed, LastFailed, CountsFailures}
use Rattle.counted_io.specs.declared.failures.Failures.{Failures}

pub last-after : (a b c : Failures) → NoneFailed a b → LastFailed b c → LastFailed a c
last-after a b c none last = (last.0 ∙ ap (λ n. u64_saturate (n + 1)) none, last.1)

pub counts-after : {T E : Type 0} (answer : Result T E) (a b c : Failures) → NoneFailed a b → CountsFailures answer b c → CountsFailures answer a c
counts-after (Ok x) a b c none counts = counts ∙ none
counts-after (Err e) a b c none counts = last-after a b c none counts
