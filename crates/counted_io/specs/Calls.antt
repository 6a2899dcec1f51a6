-- The calls of a reader or a writer that failed.
use Rattle.std.specs.Prelude.{◌≡◌, ◌+◌, Result, MatchResult, true}
use Rattle.std.specs.Io.Iter.{u64_saturate}
use Rattle.counted_io.specs.declared.counting.Counting.{Counting}
use Rattle.counted_io.specs.declared.failures.Failures.{Failures}

-- none failed
abbrev pub NoneFailed : Failures → Failures → Type 0
NoneFailed before after = after.count ≡ before.count

-- one failed, the last one
abbrev pub LastFailed : Failures → Failures → Type 0
LastFailed before after = (after.count ≡ u64_saturate (before.count + 1)) × (after.is_last ≡ true)

-- the last one failed where the answer is an error, and no other
abbrev pub CountsFailures : {T E : Type 0} → Result T E → Failures → Failures → Type 0
CountsFailures answer before after = MatchResult answer (λ _. NoneFailed before after) (λ _. LastFailed before after)

-- what a counting reader or writer stands before, and what it counted
abbrev pub inner_of : {T : Type 0} → Counting T → T
inner_of counting = counting.inner

abbrev pub failures_of : {T : Type 0} → Counting T → Failures
failures_of counting = counting.failures
