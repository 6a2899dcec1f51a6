-- The users by their session identifiers, in order of entry, with what they share together.
use Rattle.std.specs.Prelude.{◌≡◌, ℕ, List}
use Rattle.std.specs.List.{AllByRecursion}
use Rattle.std.specs.Map.{values_of}
use Rattle.user_table.specs.Listed.{Listed}
use Rattle.user_table.specs.Tables.{totals_of}
use Rattle.user_table.specs.declared.roster.Roster.TheInside.{Inside}

abbrev pub listed_in : Inside → List Listed
listed_in roster = values_of roster.users.entries

-- each user stands under their own session identifier
abbrev pub AreSeated : List (ℕ × Listed) → Type 0
AreSeated entries = AllByRecursion (λ entry. entry.0 ≡ entry.1.sid) entries

abbrev pub IsRoster : Inside → Type 0
IsRoster roster = AreSeated roster.users.entries × (roster.totals ≡ totals_of (values_of roster.users.entries))
