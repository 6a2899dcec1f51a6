use Rattle.std.proofs.Common.{◌<◌, arith, length, map, ap}
use Rattle.std.proofs.lemmas.Grind.{common_steps}
use Rattle.std.proofs.lemmas.List.{length-map}
use Rattle.shared_log.specs.Cursors.{is_settled, row_of}
use Rattle.shared_log.specs.Tables.{Table}
use Rattle.shared_log.proofs.Places.{true-at}
use Rattle.shared_log.proofs.backlogs.Backlogs.settle.Goals as goal

pub returns-clause-settled : goal.returns-clause-settled
returns-clause-settled c =
    let log = c.self.inside.log.items in
    let cs = c.self.inside.cursors.items in
    let inside : c.args.place < length (map (is_settled (length log)) cs) =
    omega (arith, ap (λ (t : Table). length t.rows) c.self.view_is, length-map cs (row_of log), length-map cs (is_settled (length log))) in
    let here = true-at c.args.place (map (is_settled (length log)) cs) inside in
    grind (arith, common_steps, here)
