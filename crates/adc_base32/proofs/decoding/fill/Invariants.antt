use Rattle.std.proofs.Common.{◌+◌, ◌≡◌, ◌<◌, ◌≤◌, ℕ, length, take}
use Rattle.adc_base32.proofs.Codes.{Drains}
use Rattle.adc_base32.proofs.decoding.fill.Given as goal

abbrev pub invariant-characters : goal.invariant-characters
invariant-characters l = record {
  drained : Drains (take l.at l.bytes) (take l.character-index l.text) l.held l.pending;
  few : l.pending < 8;
  within : l.at ≤ length l.bytes;
}

abbrev pub invariant-whole : goal.invariant-whole
invariant-whole l = record {
  drained : Drains (take l.at l.bytes) (take (l.character-index + 1) l.text) l.held l.pending;
  few : l.pending ≤ 12;
  within : l.at ≤ length l.bytes;
}

abbrev pub decreases-whole : goal.decreases-whole
decreases-whole l = l.pending
