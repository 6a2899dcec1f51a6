-- At most 1,024 client identifiers have a ban, whatever operators do, and each has one.
use Rattle.std.specs.Prelude.{ℕ, ◌≤◌, List, length}
use Rattle.std.specs.List.Sorted.{IsStrictlySortedBy}
use Rattle.std.specs.Map.{keys_of}
use Rattle.operator_acts.specs.Bans.{cid_cmp, max_bans}
use Rattle.hub_rules.specs.declared.history.Entry.{Entry}
use Rattle.hub_rules.specs.Configured.{Configured}
use Rattle.hub_rules.specs.Facts.{facts}

-- the bans that are held are no more than that
abbrev pub BansAreFew : Type 0
BansAreFew = (setup : Configured) (hash : List ℕ → List ℕ) (h : List Entry) → length (facts setup hash h).bans ≤ max_bans

-- they stand in the order of their client identifiers, each of them once
abbrev pub BansAreApart : Type 0
BansAreApart = (setup : Configured) (hash : List ℕ → List ℕ) (h : List Entry) → IsStrictlySortedBy cid_cmp (keys_of (facts setup hash h).bans)
