use Rattle.std.proofs.Common.{arith}
use Rattle.std.proofs.lemmas.Grind.{common_steps}
use Rattle.shared_log.proofs.Logs.{after-more}
use Rattle.shared_log.proofs.cursor.Cursor.settle.Goals as goal

pub loop-place-preserved : goal.loop-place-preserved
loop-place-preserved c =
    let more = after-more c.loop-place.self.own.backlog c.args.log.now.items c.loop-place.place c.in-Some-get.entry.now (omega arith) c.in-Some-get.ensures in
    grind (arith, common_steps, more)
