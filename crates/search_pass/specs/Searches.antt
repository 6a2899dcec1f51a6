-- The interval between the searches of a connection.
use Rattle.std.specs.Prelude.{ℕ, ◌-◌, nat_le, Bool, true, Option, Some, None}

-- at the moment `now`, where `last` is the moment of the last search that was let through: the first always, and a later one
-- where as many seconds as the interval passed between; the difference is 0 where `now` is before `last`
abbrev pub may_search : Option ℕ → ℕ → ℕ → Bool
may_search None now interval = true
may_search (Some last) now interval = nat_le interval (now - last)
