-- An index by client identifier.
use Rattle.std.specs.Prelude.{ℕ, List}
use Rattle.user_table.specs.declared.cid_index.CidIndex.TheInside.{Inside}

abbrev pub sids_by_cid : Inside → List (List ℕ × ℕ)
sids_by_cid index = index.sids.entries
