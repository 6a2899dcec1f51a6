use Rattle.std.proofs.Common.{◌<◌, ap, arith, length}
use Rattle.std.specs.List.{All, remove}
use Rattle.std.proofs.lemmas.Grind.{common_steps}
use Rattle.std.proofs.lemmas.List.{length-map}
use Rattle.shared_log.specs.declared.entry.LogEntry.TheVariants.{Quit}
use Rattle.shared_log.specs.Cursors.{IsInLog, row_of}
use Rattle.shared_log.specs.Tables.{Table, new_row}
use Rattle.shared_log.proofs.Places.{All-removed, map-remove, read-map}
use Rattle.shared_log.proofs.Tables.{rows-told}
use Rattle.shared_log.proofs.backlogs.Backlogs.quit.Goals as goal
use Rattle.shared_log.proofs.backlogs.Backlogs.quit.Goals.{then-is_some+in-Ok, else-is_some}

pub returns : goal.returns
returns c =
    let log = c.self.inside.log.items in
    let cs = c.self.inside.cursors.items in
    let rows = map-remove (row_of log) c.args.place cs in
    let within : All (IsInLog (length log)) (remove cs c.args.place) = All-removed (IsInLog (length log)) c.args.place cs c.self.invariant.within in
    let told = rows-told log (Quit c.args.sid) (remove cs c.args.place) within in
    let inside : c.args.place < length cs = omega (arith, ap (λ (t : Table). length t.rows) c.self.view_is, length-map cs (row_of log)) in
    let at = read-map (row_of log) c.args.place cs c.remove-cursor.result (new_row 0 0) c.remove-cursor.ensures.value inside in
    elim c.if-is_some.branch [
      | then-is_some+in-Ok w ↦ grind (arith, common_steps, rows, told, at)
      | else-is_some w ↦ grind (arith, common_steps, rows, at)
    ]
