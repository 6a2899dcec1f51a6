use Rattle.std.proofs.Common.{◌≡◌, drop}
use Rattle.user_table.specs.Tables.{user_by_sid}
use Rattle.plain_users.proofs.finding.by_sid.Given as goal

abbrev pub invariant-users : goal.invariant-users
invariant-users l = user_by_sid l.sid l.users ≡ user_by_sid l.sid (drop l.user-index l.users)
