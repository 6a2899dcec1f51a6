use Rattle.std.proofs.Common.{◌∙◌, sym, ap, subst}
use Rattle.hub_core.proofs.Settling.{none-waits}
use Rattle.shared_log.specs.Tables.{IsSettled, told_members}
use Rattle.hub_core.proofs.delivery.give_all.Goals as goal

pub give_some-requires : goal.give_some-requires
give_some-requires c =
    subst (IsSettled c.args.place) (sym (c.give_members.ensures ∙ ap (told_members c.args.others) c.leave.ensures)) (none-waits c.args.place c.args.backlogs.now.rows c.args.backlogs.now.settled c.requires.within c.requires.settled)

pub returns-clause-settled : goal.returns-clause-settled
returns-clause-settled c =
    subst (IsSettled c.args.place) (sym c.give_some.ensures)
    (subst (IsSettled c.args.place) (sym (c.give_members.ensures ∙ ap (told_members c.args.others) c.leave.ensures)) (none-waits c.args.place c.args.backlogs.now.rows c.args.backlogs.now.settled c.requires.within c.requires.settled))
