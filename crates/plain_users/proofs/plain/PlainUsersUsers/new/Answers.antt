use Rattle.user_table.proofs.TableLemmas.{no-users}
use Rattle.plain_users.proofs.plain.PlainUsersUsers.new.Goals as goal

pub invariant_of-result : goal.invariant_of-result
invariant_of-result c = rw c.new.ensures.items no-users
