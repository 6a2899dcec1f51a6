use Rattle.std.proofs.Common.{◌+◌, ◌<◌, ◌≤◌, length, take}
use Rattle.adc_base32.proofs.Codes.{Spells}
use Rattle.adc_base32.proofs.encoding.fill.Given as goal

abbrev pub invariant-bytes : goal.invariant-bytes
invariant-bytes l = record {
  spelt : Spells (take l.at l.text) (take l.byte-index l.bytes) l.held l.pending;
  few : l.pending < 5;
  within : l.at ≤ length l.text;
}

abbrev pub invariant-whole : goal.invariant-whole
invariant-whole l = record {
  spelt : Spells (take l.at l.text) (take (l.byte-index + 1) l.bytes) l.held l.pending;
  few : l.pending ≤ 12;
  within : l.at ≤ length l.text;
}

abbrev pub decreases-whole : goal.decreases-whole
decreases-whole l = l.pending
