use Rattle.std.proofs.Common.{◌+◌, ◌<◌, ℕ}
use Rattle.std.specs.List.{Contains}
use Rattle.adc_base32.specs.Turns.{following}
use Rattle.adc_base32.proofs.window.first_free.Given as goal

abbrev pub invariant-loop-step : goal.invariant-loop-step
invariant-loop-step l = (j : ℕ) → j < l.step → Contains l.taken (following l.last (l.base + j))
