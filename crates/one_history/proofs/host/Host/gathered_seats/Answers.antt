use Rattle.std.proofs.Common.{sym, ◌∙◌}
use Rattle.one_history.proofs.Seats.{gathered_count}
use Rattle.one_history.proofs.host.Host.gathered_seats.Goals as goal

pub returns : goal.returns
returns g c = sym (gathered_count c.self.inside.place.table_id c.self.inside.place.me c.args.self.now c.self.view_is ∙ c.self.invariant.gone)
