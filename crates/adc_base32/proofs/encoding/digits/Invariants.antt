use Rattle.std.proofs.Common.{◌+◌, ◌≡◌, ◌<◌, ◌≤◌, ℕ, take}
use Rattle.std.specs.String.{string_bytes}
use Rattle.adc_base32.proofs.Codes.{Spells}
use Rattle.adc_base32.proofs.encoding.digits.Given as goal

abbrev pub invariant-bytes : goal.invariant-bytes
invariant-bytes l = record {
  spelt : Spells (string_bytes l.text) (take l.byte-index l.bytes) l.held l.pending;
  few : l.pending < 5;
}

abbrev pub invariant-whole : goal.invariant-whole
invariant-whole l = record {
  spelt : Spells (string_bytes l.text) (take (l.byte-index + 1) l.bytes) l.held l.pending;
  few : l.pending ≤ 12;
}

abbrev pub decreases-whole : goal.decreases-whole
decreases-whole l = l.pending
