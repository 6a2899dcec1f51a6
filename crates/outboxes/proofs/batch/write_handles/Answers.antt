use Rattle.std.proofs.Common.{arith}
use Rattle.std.proofs.lemmas.Grind.{common_steps}
use Rattle.outboxes.proofs.Written.{concat-map-more}
use Rattle.outboxes.proofs.batch.write_handles.Goals as goal

pub loop-line-preserved : goal.loop-line-preserved
loop-line-preserved c =
    let more = concat-map-more (λ line. line.value) c.args.lines.now c.loop-line.line-index c.line-item.result (omega arith) in
    grind (arith, common_steps, more)
