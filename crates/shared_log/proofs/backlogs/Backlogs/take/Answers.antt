use Rattle.std.proofs.Common.{arith, ap, length}
use Rattle.shared_log.specs.Tables.{Table, taken}
use Rattle.shared_log.proofs.Places.{length-at}
use Rattle.shared_log.proofs.backlogs.Backlogs.take.Goals as goal

pub rest-requires : goal.rest-requires
rest-requires c =
    omega (arith, ap (λ (t : Table). length t.rows) c.in_ok-taken.ensures.rest, length-at (taken c.args.count) c.args.place c.args.self.now.rows, c.requires.place)
