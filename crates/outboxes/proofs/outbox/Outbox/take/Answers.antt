use Rattle.std.proofs.Common.{arith, take, map}
use Rattle.std.proofs.lemmas.Grind.{common_steps}
use Rattle.std.proofs.lemmas.List.{take-map, take_min}
use Rattle.outboxes.specs.Places.{line_of}
use Rattle.outboxes.proofs.Sizes.{length-concat}
use Rattle.outboxes.proofs.outbox.Outbox.take.Goals as goal

pub skip-requires-clause-bytes : goal.skip-requires-clause-bytes
skip-requires-clause-bytes c =
    let places = c.self.inside.places.items in
    let n = c.min-count.result in
    grind (arith, common_steps, length-concat (map line_of (take n places)), take-map line_of n places)

pub returns-clause-bytes : goal.returns-clause-bytes
returns-clause-bytes c =
    let places = c.self.inside.places.items in
    grind (arith, common_steps, take_min c.args.k places, take-map line_of c.args.k places)
