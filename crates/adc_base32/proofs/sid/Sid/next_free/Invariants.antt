use Rattle.std.proofs.Common.{◌*◌, ◌<◌, ℕ}
use Rattle.std.specs.List.{Contains}
use Rattle.adc_base32.specs.Turns.{following}
use Rattle.adc_base32.proofs.sid.Sid.next_free.Given as goal

abbrev pub invariant-windows : goal.invariant-windows
invariant-windows l = (j : ℕ) → j < l.window * 1_025 → Contains l.taken (following l.last j)
