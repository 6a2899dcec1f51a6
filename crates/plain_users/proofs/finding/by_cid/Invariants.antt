use Rattle.std.proofs.Common.{◌≡◌, drop}
use Rattle.user_table.specs.Tables.{user_by_cid}
use Rattle.plain_users.proofs.finding.by_cid.Given as goal

abbrev pub invariant-users : goal.invariant-users
invariant-users l = user_by_cid l.cid l.users ≡ user_by_cid l.cid (drop l.user-index l.users)
