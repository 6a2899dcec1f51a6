-- The plain table: the users in order of entry.
use Rattle.std.specs.Prelude.{List}
use Rattle.user_table.specs.Listed.{Listed}
use Rattle.user_table.specs.Changes.{AreDistinct}
use Rattle.plain_users.specs.declared.plain.PlainUsers.TheInside.{Inside}

abbrev pub plainly_listed : Inside → List Listed
plainly_listed table = table.users.items

abbrev pub ArePlainlyDistinct : Inside → Type 0
ArePlainlyDistinct table = AreDistinct table.users.items
