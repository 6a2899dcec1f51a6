use Rattle.std.proofs.Common.{◌∙◌, sym, ap, refl, []}
use Rattle.hub_core.specs.Deliveries.{row_given}
use Rattle.hub_core.proofs.Rows.{nothing-at, row-nothing}
use Rattle.shared_log.specs.Tables.{at_row, with_rows}
use Rattle.hub_core.proofs.delivery.give_some.Goals as goal

pub returns-else-not-is_empty : goal.returns-else-not-is_empty
returns-else-not-is_empty c =
    sym (ap (λ ls. at_row c.args.place (row_given ls) c.args.backlogs.now) (c.if-not-is_empty.ensures.0 refl)
    ∙ ap (λ rows. with_rows rows c.args.backlogs.now) (nothing-at (row_given []) row-nothing c.args.place c.args.backlogs.now.rows))
