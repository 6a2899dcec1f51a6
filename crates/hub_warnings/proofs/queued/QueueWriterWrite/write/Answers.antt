use Rattle.std.proofs.Common.{arith, refl, get_or}
use Rattle.hub_warnings.proofs.Bytes.{open_after-step}
use Rattle.hub_warnings.proofs.queued.QueueWriterWrite.write.Goals as goal

pub loop-byte-preserved : goal.loop-byte-preserved
loop-byte-preserved g c =
    open_after-step c.args.buf.now c.args.self.now.line.bytes.items c.loop-byte.self.line.bytes.items c.put.new.self.line.bytes.items
    c.loop-byte.self.line.is_lost c.put.new.self.line.is_lost c.loop-byte.byte-index (get_or c.args.buf.now c.loop-byte.byte-index 0)
    (omega arith) refl c.loop-byte.invariant c.put.ensures.lost c.put.ensures.bytes
