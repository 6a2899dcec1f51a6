use Rattle.std.proofs.Common.{arith, length}
use Rattle.std.proofs.lemmas.Grind.{common_steps}
use Rattle.shared_log.specs.Cursors.{row_of, is_settled}
use Rattle.shared_log.proofs.Places.{map-remove}
use Rattle.shared_log.proofs.backlogs.Backlogs.remove.Goals as goal

pub returns : goal.returns
returns c =
    let log = c.self.inside.log.items in
    let cs = c.self.inside.cursors.items in
    let rows = map-remove (row_of log) c.args.place cs in
    let flags = map-remove (is_settled (length log)) c.args.place cs in
    grind (arith, common_steps, rows, flags)
