use Rattle.std.proofs.Common.{◌∙◌, ap, arith, None}
use Rattle.std.proofs.lemmas.Grind.{common_steps}
use Rattle.shared_log.specs.Cursors.{cursor_given}
use Rattle.shared_log.proofs.Parts.{same-item}
use Rattle.shared_log.proofs.Places.{set-at}
use Rattle.shared_log.specs.declared.cursor.Cursor.{Cursor}
use Rattle.shared_log.specs.OwnLines.{nothing_own}
use Rattle.shared_log.proofs.cursors.give_at.Goals as goal

pub returns : goal.returns
returns c =
    let set = set-at (cursor_given c.args.batch) c.args.place c.args.cursors.now c.index-cursors-place.result c.index-cursors-place.is c.requires.place in
    grind (arith, common_steps, set)

pub give-requires : goal.give-requires
give-requires c =
    ap (λ (cursor : Cursor). cursor.own.is_kept) (same-item c.args.cursors.now c.args.place c.index-cursors-place.result (record { own = nothing_own 0 0; tail = None }) c.requires.place)
    ∙ c.requires.kept
