-- The causes by which a run ends, and what was answered before.
use Rattle.std.specs.Prelude.{ℕ, ◌≤◌, List, length, Option, ⊤}
use Rattle.counted_io.specs.Calls.{LastFailed, NoneFailed}
use Rattle.counted_io.specs.declared.failures.Failures.{Failures}
use Rattle.hub_rules.specs.declared.history.Entry.{Entry}
use Rattle.hub_rules.specs.Configured.{Configured}
use Rattle.hub_stdio.specs.declared.fault.RunFault.{RunFault}
use Rattle.hub_stdio.specs.declared.fault.RunFault.TheVariants.{Memory, Read, Write, TooLong, Turns}
use Rattle.hub_stdio.specs.Runs.{IsOwedWritten, IsAnsweredInPart, EndsTooLong}

-- how often a run reads
abbrev pub most_reads : ℕ
most_reads = 1_048_576

-- what a reader and a writer tell of themselves: the bytes that are left and those that are held, where they are known, and
-- which of their calls failed
pub record FailedCalls : Type 0 where
  pub unread : Option (List ℕ)
  pub held : Option (List ℕ)
  pub reads : Failures
  pub writes : Failures

abbrev pub told : Option (List ℕ) → Option (List ℕ) → Failures → Failures → FailedCalls
told unread held reads writes = record { unread = unread; held = held; reads = reads; writes = writes }

-- no call failed
abbrev pub NothingFailed : FailedCalls → FailedCalls → Type 0
NothingFailed before after = NoneFailed before.reads after.reads × NoneFailed before.writes after.writes

-- one call of the reader failed, its last, and none of the writer
abbrev pub LastReadFailed : FailedCalls → FailedCalls → Type 0
LastReadFailed before after = LastFailed before.reads after.reads × NoneFailed before.writes after.writes

-- one call of the writer failed, its last, and none of the reader
abbrev pub LastWriteFailed : FailedCalls → FailedCalls → Type 0
LastWriteFailed before after = NoneFailed before.reads after.reads × LastFailed before.writes after.writes

-- all that was read was answered, and this holds of it
abbrev pub AnsweredAll : Configured → (List ℕ → List ℕ) → FailedCalls → FailedCalls → (List ℕ → Type 0) → Type 0
AnsweredAll setup hash before after Holds =
    (read : List ℕ) × (h : List Entry) × IsOwedWritten setup hash before.unread after.unread before.held after.held read h × Holds read

abbrev pub AnsweredPart : Configured → (List ℕ → List ℕ) → FailedCalls → FailedCalls → Type 0
AnsweredPart setup hash before after =
    (read : List ℕ) × (h : List Entry) × IsAnsweredInPart setup hash before.unread after.unread before.held after.held read h

-- what was answered before each fault, and what failed
abbrev pub StopsBy : RunFault → Configured → (List ℕ → List ℕ) → FailedCalls → FailedCalls → Type 0
StopsBy Memory setup hash before after = AnsweredPart setup hash before after × NothingFailed before after
StopsBy Read setup hash before after = AnsweredAll setup hash before after (λ _. ⊤) × LastReadFailed before after
StopsBy Write setup hash before after = AnsweredPart setup hash before after × LastWriteFailed before after
StopsBy TooLong setup hash before after = AnsweredAll setup hash before after EndsTooLong × NothingFailed before after
StopsBy Turns setup hash before after = AnsweredAll setup hash before after (λ read. most_reads ≤ length read) × NothingFailed before after
