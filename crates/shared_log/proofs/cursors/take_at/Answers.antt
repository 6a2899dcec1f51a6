use Rattle.std.proofs.Common.{arith}
use Rattle.std.proofs.lemmas.Grind.{common_steps}
use Rattle.shared_log.specs.Cursors.{cursor_taken}
use Rattle.shared_log.proofs.Places.{set-at}
use Rattle.shared_log.proofs.cursors.take_at.Goals as goal

pub returns-clause-rest : goal.returns-clause-rest
returns-clause-rest c =
    let set = set-at (cursor_taken c.args.count) c.args.place c.args.cursors.now c.index-cursors-place.result c.index-cursors-place.is c.requires.place in
    grind (arith, common_steps, set)
