use Rattle.std.proofs.Common.{arith}
use Rattle.std.proofs.lemmas.Grind.{common_steps}
use Rattle.std.proofs.lemmas.List.{take-map}
use Rattle.outboxes.specs.Places.{line_of}
use Rattle.outboxes.proofs.outbox.Outbox.write.Goals as goal

pub returns-clause-ok : goal.returns-clause-ok
returns-clause-ok c =
    let places = c.self.inside.places.items in
    grind (arith, common_steps, take-map line_of c.args.count places)
