-- A lock, a caller's seat and the host, as contracts see them: plain data, which names no field of theirs.
use Rattle.std.specs.Prelude.{◌≡◌, ℕ, Bool, true, false, Option, Some, List, [], map}
use Rattle.atomic_table.specs.Seated.{TableId}

-- a lock: which one it is, and what its values are about
pub record LockState (A : Type 0) : Type 0 where
  pub table : TableId
  pub about : A

-- the lock to which a seat belongs
pub record Home (A : Type 0) : Type 0 where
  pub table : TableId
  pub about : Option A

abbrev pub home_of : {A : Type 0} → LockState A → Home A
home_of l = record { table = l.table; about = Some l.about }

-- a caller's seat: the caller's number, the beginning of the history that it has seen, its own entries, and whether it holds the value
pub record SeatState (E A : Type 0) : Type 0 where
  pub home : Home A
  pub number : ℕ
  pub seen : List E
  pub mine : List E
  pub holds : Bool

-- a caller: its number, the beginning of the history that it has seen, and its own entries
pub record Caller (E : Type 0) : Type 0 where
  pub number : ℕ
  pub seen : List E
  pub mine : List E

-- the host: how many callers it has admitted, and those that have given their seats back
pub record LockHostState (E A : Type 0) : Type 0 where
  pub home : Home A
  pub admitted : ℕ
  pub gathered : List (Caller E)

module _ {E A : Type 0} where
  -- a seat whose caller has seen nothing and made nothing
  abbrev pub newcomer : LockState A → ℕ → SeatState E A
  newcomer l p = record { home = home_of l; number = p; seen = []; mine = []; holds = false }

  -- a host that has admitted nobody
  abbrev pub first_host : LockState A → LockHostState E A
  first_host l = record { home = home_of l; admitted = 0; gathered = [] }

  abbrev pub caller_of : SeatState E A → Caller E
  caller_of s = record { number = s.number; seen = s.seen; mine = s.mine }

  -- the callers whose seats these have
  abbrev pub callers_of : {S : Type 0} → (S → SeatState E A) → List S → List (Caller E)
  callers_of seat all = map (λ s. caller_of (seat s)) all

  -- the seat belongs to this lock and doesn't hold the value
  abbrev pub IsIdleAt : LockState A → SeatState E A → Type 0
  IsIdleAt l s = (s.home ≡ home_of l) × (s.holds ≡ false)

  -- the seat belongs to this lock and holds the value
  abbrev pub IsHolderAt : LockState A → SeatState E A → Type 0
  IsHolderAt l s = (s.home ≡ home_of l) × (s.holds ≡ true)
