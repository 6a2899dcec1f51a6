use Rattle.std.proofs.Common.{◌≡◌, ◌<◌, ◌≤◌, ℕ, length, get_or}
use Rattle.std.specs.Str.{chars}
use Rattle.adc_ids.proofs.nick.tells_nick.Given as goal

abbrev pub invariant-points : goal.invariant-points
invariant-points l = record {
  count : l.points ≡ length l.yielded;
  few : l.points ≤ 64;
  above : (k d : ℕ) → k < l.points → 32 < get_or (chars l.text) k d;
}
