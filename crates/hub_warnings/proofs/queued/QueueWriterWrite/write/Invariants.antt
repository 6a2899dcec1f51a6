use Rattle.std.proofs.Common.{◌≡◌, false, take}
use Rattle.hub_warnings.specs.Queued.{open_after}
use Rattle.hub_warnings.proofs.queued.QueueWriterWrite.write.Given as goal

abbrev pub invariant-loop-byte : goal.invariant-loop-byte
invariant-loop-byte g l = l.self.line.is_lost ≡ false → l.self.line.bytes.items ≡ open_after l.initial.self.line.bytes.items (take l.byte-index l.buf)
