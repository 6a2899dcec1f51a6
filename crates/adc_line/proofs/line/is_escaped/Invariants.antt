use Rattle.std.proofs.Common.{◌≡◌, length}
use Rattle.adc_line.specs.Escapes.{is_escaped}
use Rattle.adc_line.proofs.line.is_escaped.Given as goal

abbrev pub invariant-bytes : goal.invariant-bytes
invariant-bytes l = is_escaped l.rest ≡ is_escaped l.word

abbrev pub decreases-bytes : goal.decreases-bytes
decreases-bytes l = length l.rest
