use Rattle.shared_log.proofs.Parts.{taken-at}
use Rattle.shared_log.proofs.cursors.take_whole_at.Goals as goal

pub returns-clause-taken : goal.returns-clause-taken
returns-clause-taken c =
    taken-at c.args.log.now.items c.args.cursors.now c.args.place c.args.count c.args.out.now.items c.in-Some.part c.index-cursors-place.result c.index-cursors-place-2.result
    c.take_part.new.self c.take_part.new.out.items c.requires.place c.in-Some.ensures c.requires.within c.in_ok-take_part.ensures.row c.in_ok-take_part.ensures.within
    c.in_ok-take_part.ensures.bytes
