-- The rule between any two steps. It speaks of one word (0 free, 1 taken, 2 taken while others sleep), one slot, and the views of all seats.
use Rattle.std.specs.Prelude.{◌≡◌, ◌≢◌, ℕ, ◌<◌, ◌≤◌, ◌⊎◌, Bool, true, false, cond, Option, Some, None, List, [], ◌∷◌, length, slice_index}
use Rattle.std.specs.List.{All}
use mathlib.Core.Option.{some, none}
use lib.ListN.{get_elem?}
use Rattle.atomic_table.specs.Table.{State}
use Rattle.one_history.specs.Histories.{Begins, total}
use Rattle.one_history.specs.Claims.{claim, is_of, Agrees, IsKnown}
use Rattle.one_history.specs.declared.view.SeatView.{SeatView}
use Rattle.one_history.specs.declared.view.SeatClaim.{SeatClaim}

module _ {E A : Type 0} where
  abbrev pub view : Option A → List E → List (SeatClaim E) → Bool → ℕ → SeatView E A
  view about seen claims busy count = record { about = about; seen = seen; claims = claims; busy = busy; count = count }

  -- of the host, at the start
  abbrev pub opener : A → SeatView E A
  opener a = view (Some a) [] [] false 0

  -- of a caller that was just admitted
  abbrev pub admitted : Option A → ℕ → SeatView E A
  admitted about p = view about [] (claim p [] [] ∷ []) false 0

  -- of a seat that was joined to another
  abbrev pub spent : SeatView E A
  spent = view None [] [] false 0

  -- how many claims the view has of caller p
  abbrev pub claimed : ℕ → SeatView E A → ℕ
  claimed p v = total (is_of p) v.claims

  -- how many claims it has
  abbrev pub claims_in : SeatView E A → ℕ
  claims_in v = length v.claims

  -- 1 where the view says that it holds
  abbrev pub holding : SeatView E A → ℕ
  holding v = cond v.busy 1 0

  -- what a view says about the history that its seat has seen: it is legal, it begins with what each of its callers had seen, and their entries in it are theirs
  pub record Fair (by : E → ℕ) (legal : List E → Type 0) (v : SeatView E A) : Type 0 where
    pub lawful : legal v.seen
    pub early : All (λ c. Begins v.seen c.since) v.claims
    pub own : All (Agrees by v.seen) v.claims

  -- a view fits the table's key and the history
  pub record Fits (by : E → ℕ) (legal : List E → Type 0) (key : A) (log : List E) (v : SeatView E A) : Type 0 where
    pub told : (a : A) → v.about ≡ Some a → a ≡ key
    pub begins : Begins log v.seen
    pub fair : Fair by legal v
    pub whole : All (Agrees by log) v.claims
    pub holder : v.busy ≡ true → (v.seen ≡ log) × (0 < length v.claims)

module _ {T E A : Type 0} where
  -- the value in the slot stands at the history
  abbrev pub Rests : (T → List E → Type 0) → State (Option T) (SeatView E A) → List E → Type 0
  Rests stands s log = (x : T) × (get_elem? s.homes 0 ≡ some (some (Some x))) × stands x log

  -- There is a legal history, the log, which every view fits. Callers' numbers are distinct and from 1 to the host's count, and so is the caller of each entry.
  -- The host's view is the first. While the word is 0, no view holds and the value in the slot stands at the log; else exactly one view holds, and the slot is out.
  pub record Kept (by : E → ℕ) (legal : A → List E → Type 0) (stands : A → T → List E → Type 0) (key : A) (s : State (Option T) (SeatView E A)) : Type 0 where
    pub log : List E
    pub count : ℕ
    pub wide : length s.words ≡ 1
    pub start : legal key []
    pub lawful : legal key log
    pub hosted : (v : SeatView E A) → get_elem? s.views 0 ≡ some v → v.count ≡ count
    pub fits : (j : ℕ) (v : SeatView E A) → get_elem? s.views j ≡ some v → Fits by (legal key) key log v
    pub once : (p : ℕ) → 0 < p → p ≤ count → total (claimed p) s.views ≡ 1
    pub never : (p : ℕ) → (p ≡ 0) ⊎ (count < p) → total (claimed p) s.views ≡ 0
    pub many : total claims_in s.views ≡ count
    pub callers : All (IsKnown by count) log
    pub free : slice_index s.words 0 ≡ 0 → (total holding s.views ≡ 0) × Rests (stands key) s log
    pub taken : slice_index s.words 0 ≢ 0 → (total holding s.views ≡ 1) × (get_elem? s.homes 0 ≡ some none)
