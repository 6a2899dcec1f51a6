-- The index of the connections by their session identifiers.
use Rattle.std.specs.Prelude.{◌≡◌, ◌==◌, ℕ, cond, List, [], ◌∷◌, Option, Some, map}
use Rattle.std.specs.BTreeMap.{is_at}
use Rattle.std.specs.Map.{lookup}
use Rattle.std.specs.Ordering.{nat_cmp}
use Rattle.hub_core.specs.declared.seat.Seat.{Seat}

-- the number that stands under a session identifier
abbrev pub number_at : List (ℕ × ℕ) → ℕ → Option ℕ
number_at index sid = lookup (is_at (nat_cmp sid)) index

-- the second has this under the session identifier, and what the first has under each other
abbrev pub IsSetAtSid : ℕ → Option ℕ → List (ℕ × ℕ) → List (ℕ × ℕ) → Type 0
IsSetAtSid sid found before after = (other : ℕ) → number_at after other ≡ cond (sid == other) found (number_at before other)

-- the session identifier and the number of each connection
abbrev pub keys : List Seat → List (ℕ × ℕ)
keys seats = map (λ (seat : Seat). (seat.sender.sid, seat.number)) seats

-- under the session identifier of each connection stands its number
unfoldable pub AreIndexedBySid : List (ℕ × ℕ) → List (ℕ × ℕ) → Type 0
AreIndexedBySid index [] = Unit {0}
AreIndexedBySid index (key ∷ keys) = (number_at index key.0 ≡ Some key.1) × AreIndexedBySid index keys
