use Rattle.user_table.proofs.IndexedLemmas.{indexed-none}
use Rattle.user_table.proofs.indexed.IndexedUsersUsers.new.Goals as goal

pub invariant_of-result : goal.invariant_of-result
invariant_of-result c = rw (c.new.ensures, c.new-2.ensures, c.new-3.ensures) indexed-none
