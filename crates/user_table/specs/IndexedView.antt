-- The table with its indexes: the users in order of entry, and who has a nick or a client identifier.
use Rattle.std.specs.Prelude.{◌≡◌, ℕ, List}
use Rattle.user_table.specs.Changes.{AreDistinct}
use Rattle.user_table.specs.Indexes.{sid_at, sid_of}
use Rattle.user_table.specs.Listed.{Listed}
use Rattle.user_table.specs.Tables.{user_by_cid, user_by_key}
use Rattle.user_table.specs.declared.indexed.IndexedUsers.TheInside.{Inside}

-- the indexes answer what a walk over the list would find
pub record AreIndexed (users : List Listed) (nicks cids : List (List ℕ × ℕ)) : Type 0 where
  pub distinct : AreDistinct users
  pub by_key : (key : List ℕ) → sid_at nicks key ≡ sid_of (user_by_key key users)
  pub by_cid : (cid : List ℕ) → sid_at cids cid ≡ sid_of (user_by_cid cid users)

abbrev pub listed_by_indexes : Inside → List Listed
listed_by_indexes table = table.roster

abbrev pub IsIndexed : Inside → Type 0
IsIndexed table = AreIndexed table.roster table.nicks table.cids
