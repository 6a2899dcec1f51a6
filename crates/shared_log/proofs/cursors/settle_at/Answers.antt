use Rattle.std.proofs.Common.{arith, length, true}
use Rattle.std.proofs.lemmas.Grind.{common_steps}
use Rattle.shared_log.specs.Cursors.{row_of, is_settled}
use Rattle.shared_log.proofs.Places.{map-set-same, map-set-at}
use Rattle.shared_log.proofs.cursors.settle_at.Goals as goal

pub returns-clause-kept : goal.returns-clause-kept
returns-clause-kept c =
    map-set-same (row_of c.args.log.now.items) c.args.place c.args.cursors.now c.index-cursors-place.result c.settle.new.self c.settle.ensures.kept

pub returns-clause-settled : goal.returns-clause-settled
returns-clause-settled c =
    let set = map-set-at (is_settled (length c.args.log.now.items)) c.args.place c.args.cursors.now c.settle.new.self true in
    grind (arith, common_steps, set)

pub returns-clause-err : goal.returns-clause-err
returns-clause-err c =
    let set = map-set-same (is_settled (length c.args.log.now.items)) c.args.place c.args.cursors.now c.index-cursors-place.result c.settle.new.self in
    grind (arith, common_steps, set)
