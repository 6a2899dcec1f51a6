use Rattle.std.proofs.Common.{arith}
use Rattle.std.proofs.lemmas.Grind.{common_steps}
use Rattle.outboxes.specs.Places.{line_of}
use Rattle.outboxes.proofs.Written.{concat-map-more}
use Rattle.outboxes.proofs.outbox.write_lines.Goals as goal
use Rattle.outboxes.proofs.outbox.write_lines.Goals.{in-Line, in-Quit}

pub loop-place-preserved : goal.loop-place-preserved
loop-place-preserved c =
    let more = concat-map-more line_of c.args.places.now c.loop-place.place-index c.place-item.result (omega arith) in
    elim c.match-place.branch [
      | in-Line w ↦ grind (arith, common_steps, more)
      | in-Quit w ↦ grind (arith, common_steps, more)
    ]
