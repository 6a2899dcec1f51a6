use Rattle.std.proofs.Common.{arith}
use Rattle.std.proofs.lemmas.Grind.{common_steps}
use Rattle.shared_log.specs.Cursors.{with_tail}
use Rattle.shared_log.proofs.Places.{set-at}
use Rattle.shared_log.proofs.cursors.set_tail.Goals as goal

pub returns : goal.returns
returns c =
    let set = set-at (with_tail c.args.tail) c.args.place c.args.cursors.now c.index-cursors-place.result c.index-cursors-place.is c.requires in
    grind (arith, common_steps, set)
