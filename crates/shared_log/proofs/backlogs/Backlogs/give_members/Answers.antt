use Rattle.std.proofs.Common.{arith}
use Rattle.std.proofs.lemmas.Grind.{common_steps}
use Rattle.shared_log.specs.declared.entry.LogEntry.TheVariants.{Lines}
use Rattle.shared_log.proofs.Tables.{rows-told, settled-told}
use Rattle.shared_log.proofs.backlogs.Backlogs.give_members.Goals as goal

pub returns : goal.returns
returns c =
    let log = c.self.inside.log.items in
    let cs = c.self.inside.cursors.items in
    let rows = rows-told log (Lines c.args.batch) cs c.self.invariant.within in
    let flags = settled-told log (Lines c.args.batch) cs c.self.invariant.within in
    grind (arith, common_steps, rows, flags)
