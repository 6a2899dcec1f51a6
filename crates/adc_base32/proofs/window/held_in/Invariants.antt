use Rattle.std.proofs.Common.{◌+◌, ◌<◌, ℕ, false, slice_index_or, take}
use Rattle.std.specs.Bool.{Decides}
use Rattle.std.specs.List.{Contains}
use Rattle.adc_base32.specs.Turns.{following}
use Rattle.adc_base32.proofs.window.held_in.Given as goal

abbrev pub invariant-loop-sid : goal.invariant-loop-sid
invariant-loop-sid l = (k : ℕ) → k < 1_025 → Decides (slice_index_or l.held k false) (Contains (take l.sid-index l.taken) (following l.last (l.base + k)))
