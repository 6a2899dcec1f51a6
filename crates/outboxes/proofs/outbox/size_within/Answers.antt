use Rattle.std.proofs.Common.{arith}
use Rattle.std.proofs.lemmas.Grind.{common_steps}
use Rattle.outboxes.proofs.Sizes.{size-map-le}
use Rattle.outboxes.proofs.outbox.size_within.Goals as goal

pub returns-in_err-left-clause-none : goal.returns-in_err-left-clause-none
returns-in_err-left-clause-none c =
    let more = size-map-le (λ line. line.value) c.args.lines.now c.loop-line.line-index c.line-item.result (omega arith) in
    grind (arith, common_steps, more)
