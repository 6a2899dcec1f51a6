use Rattle.std.proofs.Common.{arith}
use Rattle.std.proofs.lemmas.Grind.{common_steps}
use Rattle.std.proofs.lemmas.List.{length-map}
use Rattle.outboxes.proofs.Giving.{lines-added, given-whole}
use Rattle.outboxes.proofs.outbox.Outbox.give_lines.Goals as goal

pub returns-in-Some : goal.returns-in-Some
returns-in-Some c = grind (arith, common_steps, length-map, lines-added, given-whole)
