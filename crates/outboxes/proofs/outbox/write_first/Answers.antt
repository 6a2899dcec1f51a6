use Rattle.std.proofs.Common.{arith}
use Rattle.std.proofs.lemmas.Grind.{common_steps}
use Rattle.outboxes.specs.Places.{line_of}
use Rattle.outboxes.proofs.Written.{concat-map-append, take-of-two}
use Rattle.outboxes.proofs.outbox.write_first.Goals as goal

pub returns-clause-ok : goal.returns-clause-ok
returns-clause-ok c =
    let front = c.as_slices.result.0.now in
    let back = c.as_slices.result.1.now in
    let parts = take-of-two front back c.args.count in
    grind (arith, common_steps, parts, concat-map-append line_of)
