use Rattle.std.proofs.Common.{subst, sym}
use Rattle.shared_log.specs.Cursors.{row_of}
use Rattle.shared_log.specs.Tables.{Row, new_row}
use Rattle.shared_log.specs.Tallies.{IsTally}
use Rattle.shared_log.proofs.Places.{read-map}
use Rattle.shared_log.proofs.cursors.tally_at.Goals as goal

pub returns : goal.returns
returns c =
    let log = c.args.log.now.items in
    let at = read-map (row_of log) c.args.place c.args.cursors.now c.index-cursors-place.result (new_row 0 0) c.index-cursors-place.is c.requires.place in
    subst (λ (row : Row). IsTally row.backlog c.tally.result) (sym at) c.tally.ensures
