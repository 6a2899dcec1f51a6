use Rattle.std.proofs.Common.{◌≡◌, drop}
use Rattle.user_table.specs.Tables.{user_by_key}
use Rattle.plain_users.proofs.finding.by_key.Given as goal

abbrev pub invariant-users : goal.invariant-users
invariant-users l = user_by_key l.key l.users ≡ user_by_key l.key (drop l.user-index l.users)
