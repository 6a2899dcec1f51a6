use Rattle.std.proofs.Common.{true}
use Rattle.server_tasks.specs.Bells.{is_unheard}
use Rattle.server_tasks.proofs.Portions.{hears_still}
use Rattle.server_tasks.proofs.bells.Bells.ring_everybody.Goals as goal

pub returns-then-not-cry-clause-rung : goal.returns-then-not-cry-clause-rung
returns-then-not-cry-clause-rung c slot ne = hears_still c.count_ring.new.self c.cry.new.self slot true (c.cry.ensures.each slot) c.cry.ensures.rings c.cry.ensures.slots (c.count_ring.ensures.rung slot ne)

pub returns-then-not-cry-clause-own : goal.returns-then-not-cry-clause-own
returns-then-not-cry-clause-own c was got =
    hears_still c.count_ring.new.self c.cry.new.self c.args.own (is_unheard c.args.self.now.rings was) (c.cry.ensures.each c.args.own) c.cry.ensures.rings c.cry.ensures.slots (c.count_ring.ensures.own was got)

pub returns-else-not-cry-clause-rung : goal.returns-else-not-cry-clause-rung
returns-else-not-cry-clause-rung c slot ne = hears_still c.count_ring.new.self c.cry.new.self slot true (c.cry.ensures.each slot) c.cry.ensures.rings c.cry.ensures.slots (c.count_ring.ensures.rung slot ne)

pub returns-else-not-cry-clause-own : goal.returns-else-not-cry-clause-own
returns-else-not-cry-clause-own c was got =
    hears_still c.count_ring.new.self c.cry.new.self c.args.own (is_unheard c.args.self.now.rings was) (c.cry.ensures.each c.args.own) c.cry.ensures.rings c.cry.ensures.slots (c.count_ring.ensures.own was got)
