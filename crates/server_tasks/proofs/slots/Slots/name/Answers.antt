use Rattle.std.proofs.Common.{refl, Some}
use Rattle.server_tasks.proofs.Indexes.{get_set_here}
use Rattle.server_tasks.proofs.slots.Slots.name.Goals as goal

pub returns-then-is_err-clause-known : goal.returns-then-is_err-clause-known
returns-then-is_err-clause-known c lt = (_, get_set_here c.args.self.now.slots.items c.args.slot (record c.in-Some.slot.now { sid = Some c.args.sid }) lt, refl)

pub returns-else-is_err-clause-known : goal.returns-else-is_err-clause-known
returns-else-is_err-clause-known c lt = (_, get_set_here c.args.self.now.slots.items c.args.slot (record c.in-Some.slot.now { sid = Some c.args.sid }) lt, refl)
