-- The slots by the identifiers of their sessions.
use Rattle.std.specs.Prelude.{◌≡◌, ◌≢◌, ◌==◌, ℕ, cond, List, Option, Some, slice_get}
use Rattle.std.specs.BTreeMap.{is_at}
use Rattle.std.specs.Map.{lookup}
use Rattle.std.specs.Ordering.{nat_cmp}
use Rattle.server_tasks.specs.declared.slots.Slot.{Slot}
use Rattle.server_tasks.specs.declared.slots.Slots.{Slots}

-- the slot that stands under an identifier
abbrev pub slot_at : List (ℕ × ℕ) → ℕ → Option ℕ
slot_at places sid = lookup (is_at (nat_cmp sid)) places

-- the second has this under the identifier, and what the first has under each other
abbrev pub IsSetAtName : ℕ → Option ℕ → List (ℕ × ℕ) → List (ℕ × ℕ) → Type 0
IsSetAtName sid found before after = (other : ℕ) → slot_at after other ≡ cond (sid == other) found (slot_at before other)

-- the same slots stand under the same identifiers
abbrev pub SameIndex : Slots → Slots → Type 0
SameIndex old new = (new.places.entries ≡ old.places.entries) × (new.lacks_some ≡ old.lacks_some)

-- no slot but one, if any, is taken from its identifier
abbrev pub OthersStayNamed : Slots → Slots → ℕ → Type 0
OthersStayNamed old new slot =
    (new.lacks_some ≡ old.lacks_some)
    × ((sid : ℕ) (other : ℕ) → other ≢ slot → slot_at old.places.entries sid ≡ Some other → slot_at new.places.entries sid ≡ Some other)

-- the session of the slot is known by the identifier
abbrev pub IsNamed : Slots → ℕ → ℕ → Type 0
IsNamed slots place sid = (slot : Slot) × (slice_get slots.slots.items place ≡ Some slot) × (slot.sid ≡ Some sid)
