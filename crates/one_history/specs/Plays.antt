-- The knowledge that each step gives its caller, and how views are cut in two and put together.
use Rattle.std.specs.Prelude.{◌≡◌, ◌≢◌, ℕ, ◌+◌, true, false, Option, Some, List, [], ◌∷◌, ◌++◌}
use Rattle.atomic_table.specs.Table.{Me, Step}
use Rattle.one_history.specs.Histories.{Begins, longer}
use Rattle.one_history.specs.declared.view.SeatView.{SeatView}
use Rattle.one_history.specs.Rule.{view, admitted, Fair}
use Rattle.one_history.specs.Claims.{added, stamped, first_claim, other_claims}

module _ {T E A : Type 0} where
  -- The seat has taken the word, and with it the slot. It has seen the whole history, at which the value stands
  pub record Seizes (by : E → ℕ) (legal : A → List E → Type 0) (stands : A → T → List E → Type 0) (m n : Me (Option T) (SeatView E A)) : Type 0 where
    pub value : T
    pub seen : List E
    pub now : n ≡ (view m.0.about seen m.0.claims true m.0.count, (0, Some value) ∷ [])
    pub longer : Begins seen m.0.seen
    pub rests : (a : A) → m.0.about ≡ Some a → stands a value seen
    pub fair : (a : A) → m.0.about ≡ Some a → Fair by (legal a) n.0

  -- a try to take the word, which goes wrong where the word was taken
  abbrev pub Tries : (E → ℕ) → (A → List E → Type 0) → (A → T → List E → Type 0) → Step (Option T) → Me (Option T) (SeatView E A) → ℕ → Me (Option T) (SeatView E A) → Type 0
  Tries by legal stands step m found n = (found ≡ 0 → Seizes by legal stands m n) × (found ≢ 0 → n ≡ m)

  -- the seat, once it has given back the word and the slot with an entry, and without
  abbrev pub with_entry : E → Me (Option T) (SeatView E A) → Me (Option T) (SeatView E A)
  with_entry e m = (view m.0.about (e ∷ m.0.seen) (added e m.0.claims) false m.0.count, [])

  abbrev pub without_entry : Me (Option T) (SeatView E A) → Me (Option T) (SeatView E A)
  without_entry m = (view m.0.about m.0.seen m.0.claims false m.0.count, [])

  -- both were given back, and the history has one more entry
  abbrev pub Adds : (E → ℕ) → (A → List E → Type 0) → E → Step (Option T) → Me (Option T) (SeatView E A) → ℕ → Me (Option T) (SeatView E A) → Type 0
  Adds by legal e step m found n = (n ≡ with_entry e m) × ((a : A) → m.0.about ≡ Some a → Fair by (legal a) n.0)

  -- both were given back, and the history is as it was
  abbrev pub Returns : Step (Option T) → Me (Option T) (SeatView E A) → ℕ → Me (Option T) (SeatView E A) → Type 0
  Returns step m found n = n ≡ without_entry m

  -- a look, which changes nothing
  abbrev pub Learns : (E → ℕ) → (A → List E → Type 0) → Step (Option T) → Me (Option T) (SeatView E A) → ℕ → Me (Option T) (SeatView E A) → Type 0
  Learns by legal step m found n = (n ≡ m) × ((a : A) → m.0.about ≡ Some a → Fair by (legal a) m.0)

module _ {E A : Type 0} where
  -- the host once it has admitted one more, and that caller
  abbrev pub admitting : SeatView E A → SeatView E A
  admitting v = view v.about v.seen v.claims v.busy (v.count + 1)

  abbrev pub newly : SeatView E A → SeatView E A
  newly v = admitted v.about (v.count + 1)

  -- two views in one
  abbrev pub paired : SeatView E A → SeatView E A → SeatView E A
  paired v w = view v.about (longer v.seen w.seen) (stamped v.seen v.claims ++ stamped w.seen w.claims) v.busy v.count

  abbrev pub left_of : SeatView E A → SeatView E A
  left_of v = view v.about v.seen (first_claim v.claims) v.busy v.count

  abbrev pub right_of : SeatView E A → SeatView E A
  right_of v = view v.about v.seen (other_claims v.claims) false 0

  -- the host, with one more caller among those that it gathered
  abbrev pub gathering : SeatView E A → SeatView E A → SeatView E A
  gathering v w = view v.about (longer v.seen w.seen) (stamped w.seen w.claims ++ v.claims) v.busy v.count
