use Rattle.std.proofs.Common.{◌∙◌, ap}
use Rattle.user_table.specs.Tables.{user_by_sid}
use Rattle.user_table.proofs.SeatLemmas.{lookup-seated}
use Rattle.user_table.proofs.roster.Roster.get.Goals as goal

pub returns : goal.returns
returns c = c.get.ensures.value ∙ lookup-seated c.args.sid c.self.inside.users.entries c.self.invariant.0 ∙ ap (user_by_sid c.args.sid) c.self.view_is
