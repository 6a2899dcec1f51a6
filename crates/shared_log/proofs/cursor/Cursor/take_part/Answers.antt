use Rattle.std.proofs.Common.{ap, take, arith}
use Rattle.std.specs.List.{concat}
use Rattle.std.proofs.lemmas.Grind.{common_steps}
use Rattle.std.proofs.lemmas.List.Folds.{concat-append}
use Rattle.outboxes.proofs.Sizes.{length-concat}
use Rattle.shared_log.specs.Entries.{all_lines}
use Rattle.shared_log.specs.Parts.{between}
use Rattle.shared_log.proofs.Parts.{row-after}
use Rattle.shared_log.proofs.cursor.Cursor.take_part.Goals as goal

pub skip-requires-clause-bytes : goal.skip-requires-clause-bytes
skip-requires-clause-bytes c =
    let long = length-concat (take c.args.part.now.own c.args.self.now.own.backlog.lines) in
    grind (arith, common_steps, long)

pub returns-clause-row : goal.returns-clause-row
returns-clause-row c =
    let after = row-after c.args.log.now.items c.args.self.now c.args.count c.args.part.now c.requires in
    grind (arith, common_steps, after)

pub returns-clause-bytes : goal.returns-clause-bytes
returns-clause-bytes c =
    let joined = concat-append (take c.args.part.now.own c.args.self.now.own.backlog.lines) (all_lines (between c.args.log.now.items c.args.part.now.tail c.args.part.now.end)) in
    let first = ap concat c.requires.first in
    grind (arith, common_steps, joined, first)
