-- The knowledge of a seat, as the state that contracts see.
use Rattle.std.specs.Prelude.{◌≡◌, ℕ, Bool, true, false, Option, Some, None, List, [], ◌∷◌, length}
use Rattle.atomic_table.specs.Table.{Me}
use Rattle.atomic_table.specs.Seated.{TableId}
use Rattle.one_history.specs.States.{SeatState, LockHostState, Caller}
use Rattle.one_history.specs.declared.view.SeatView.{SeatView}
use Rattle.one_history.specs.declared.view.SeatClaim.{SeatClaim}

-- a table of one word and one slot
abbrev pub IsOne : TableId → Type 0
IsOne z = (z.words ≡ 1) × (z.slots ≡ 1)

module _ {E : Type 0} where
  abbrev pub number_in : List (SeatClaim E) → ℕ
  number_in [] = 0
  number_in (c ∷ cs) = c.number

  abbrev pub mine_in : List (SeatClaim E) → List E
  mine_in [] = []
  mine_in (c ∷ cs) = c.mine

  abbrev pub callers_in : List (SeatClaim E) → List (Caller E)
  callers_in [] = []
  callers_in (c ∷ cs) = record { number = c.number; seen = c.since; mine = c.mine } ∷ callers_in cs

module _ {E A : Type 0} where
  abbrev pub seat_of : TableId → SeatView E A → SeatState E A
  seat_of z v = record { home = record { table = z; about = v.about }; number = number_in v.claims; seen = v.seen; mine = mine_in v.claims; holds = v.busy }

  abbrev pub host_of : TableId → SeatView E A → LockHostState E A
  host_of z v = record { home = record { table = z; about = v.about }; admitted = v.count; gathered = callers_in v.claims }

module _ {T : Type 0} where
  -- the slots that a seat has: the one slot, whose value is outside, where it holds
  abbrev pub carried : Bool → List (ℕ × Option T)
  carried true = (0, None) ∷ []
  carried false = []

module _ {T E A : Type 0} where
  -- a seat of one caller, who is not the host
  pub record IsSeat (me : Me (Option T) (SeatView E A)) : Type 0 where
    pub claim : SeatClaim E
    pub only : me.0.claims ≡ claim ∷ []
    pub guest : me.0.count ≡ 0
    pub slot : me.1 ≡ carried me.0.busy

  -- a seat that doesn't hold
  abbrev pub IsIdle : Me (Option T) (SeatView E A) → Type 0
  IsIdle me = (me.1 ≡ []) × (me.0.busy ≡ false)

  -- the seat holds this value, of a lock about a
  pub record HasValue (a : A) (x : T) (me : Me (Option T) (SeatView E A)) : Type 0 where
    pub told : me.0.about ≡ Some a
    pub busy : me.0.busy ≡ true
    pub slot : me.1 ≡ (0, Some x) ∷ []

  -- the seat holds a value that stands at what it has seen
  pub record IsUnchanged (stands : A → T → List E → Type 0) (me : Me (Option T) (SeatView E A)) : Type 0 where
    pub about : A
    pub value : T
    pub has : HasValue about value me
    pub rests : stands about value me.0.seen

  -- the seat holds a value that stands at what it has seen and one more entry, which is its caller's
  pub record IsReady (by : E → ℕ) (legal : A → List E → Type 0) (stands : A → T → List E → Type 0) (e : E) (me : Me (Option T) (SeatView E A)) : Type 0 where
    pub about : A
    pub value : T
    pub claim : SeatClaim E
    pub has : HasValue about value me
    pub only : me.0.claims ≡ claim ∷ []
    pub mine : by e ≡ claim.number
    pub lawful : legal about (e ∷ me.0.seen)
    pub rests : stands about value (e ∷ me.0.seen)

  -- the host's seat, with the counts that it keeps
  pub record IsHost (id : ℕ) (me : Me (Option T) (SeatView E A)) (admitted gathered : ℕ) : Type 0 where
    pub first : id ≡ 0
    pub idle : IsIdle me
    pub counts : me.0.count ≡ admitted
    pub gone : length me.0.claims ≡ gathered
