use Rattle.std.proofs.Common.{ap, get_or}
use Rattle.std.specs.Prelude.{is_some}
use Rattle.shared_log.specs.Cursors.{owed, row_of}
use Rattle.shared_log.proofs.Places.{map-set-same}
use Rattle.shared_log.proofs.cursors.rest_at.Goals as goal

pub returns-clause-kept : goal.returns-clause-kept
returns-clause-kept c log =
    let tail = (get_or c.args.cursors.now c.args.place c.index-cursors-place.result).tail in
    map-set-same (row_of log) c.args.place c.args.cursors.now c.index-cursors-place.result (record { own = c.rest.new.self; tail = tail })
    (ap (λ b. record { backlog = owed log b tail; is_member = is_some tail }) c.rest.ensures)
