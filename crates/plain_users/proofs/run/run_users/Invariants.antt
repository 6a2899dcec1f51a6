use Rattle.std.proofs.Common.{◌+◌, ◌≤◌, length}
use Rattle.std.specs.Vec.{vec_capacity}
use Rattle.std.specs.Vec.Iter.{into_iter_items}
use Rattle.plain_users.proofs.RunLemmas.{AreUnderWay}
use Rattle.plain_users.proofs.run.run_users.Given as goal

abbrev pub invariant-loop-command : goal.invariant-loop-command
invariant-loop-command g l =
    AreUnderWay (g.U.Users.listed l.fn.users) l.fn.commands.items l.answers.items (g.U.Users.listed l.users) (into_iter_items l.command-iterator)
    × (length l.answers.items + length (into_iter_items l.command-iterator) ≤ vec_capacity l.answers)
