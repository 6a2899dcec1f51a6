use Rattle.std.proofs.Common.{◌≡◌, drop}
use Rattle.user_table.specs.Places.{place_from}
use Rattle.user_table.specs.Tables.{has_sid}
use Rattle.plain_users.proofs.finding.place_of.Given as goal

abbrev pub invariant-users : goal.invariant-users
invariant-users l = (l.place ≡ l.user-index) × (place_from (has_sid l.sid) 0 l.users ≡ place_from (has_sid l.sid) l.place (drop l.user-index l.users))
