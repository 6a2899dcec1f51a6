use Rattle.std.proofs.Common.{arith}
use Rattle.std.proofs.lemmas.Grind.{common_steps}
use Rattle.std.proofs.lemmas.List.{take-map, drop-map}
use Rattle.outboxes.specs.Places.{line_of}
use Rattle.outboxes.proofs.Sizes.{size-map-parts}
use Rattle.outboxes.proofs.Written.{drop-less}
use Rattle.outboxes.proofs.outbox.Outbox.skip.Goals as goal

pub overflow_sub-self : goal.overflow_sub-self
overflow_sub-self c =
    let places = c.self.inside.places.items in
    grind (arith, common_steps, take-map line_of c.args.count places, size-map-parts line_of places c.args.count)

pub invariant_of-self-else-left-eq0 : goal.invariant_of-self-else-left-eq0
invariant_of-self-else-left-eq0 c =
    let places = c.self.inside.places.items in
    grind (arith, common_steps, take-map line_of c.args.count places, size-map-parts line_of places c.args.count, drop-less places c.args.count)

pub returns-else-left-eq0 : goal.returns-else-left-eq0
returns-else-left-eq0 c =
    let places = c.self.inside.places.items in
    grind (arith, common_steps, drop-less places c.args.count, drop-map line_of c.args.count places)
