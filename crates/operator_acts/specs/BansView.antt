-- The bans as contracts see them.
use Rattle.std.specs.Prelude.{ℕ, ◌≤◌, List, length}
use Rattle.std.specs.Map.{keys_of}
use Rattle.std.specs.List.Sorted.{IsStrictlySortedBy}
use Rattle.operator_acts.specs.declared.ban.Ban.{Ban}
use Rattle.std.specs.Map.{keys_of}
use Rattle.std.specs.List.Sorted.{IsStrictlySortedBy}
use Rattle.operator_acts.specs.declared.bans.Bans.TheInside.{Inside}
use Rattle.operator_acts.specs.Bans.{cid_cmp, max_bans}

abbrev pub bans_in : Inside → List (List ℕ × Ban)
bans_in bans = bans.held.entries

-- they are few enough, and stand in order, each once
abbrev pub AreHeld : Inside → Type 0
AreHeld bans = (length bans.held.entries ≤ max_bans) × IsStrictlySortedBy cid_cmp (keys_of bans.held.entries)
