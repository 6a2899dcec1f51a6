use Rattle.std.proofs.Common.{length}
use Rattle.history_check.proofs.Bytes.{Reads}
use Rattle.history_check.specs.Reading.{read_bytes}
use Rattle.history_check.proofs.escapes.read_bytes.Given as goal

abbrev pub invariant-bytes : goal.invariant-bytes
invariant-bytes l = Reads l.bytes.items l.rest (read_bytes l.text)

abbrev pub decreases-bytes : goal.decreases-bytes
decreases-bytes l = length l.rest
