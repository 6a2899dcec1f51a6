-- Which session identifier comes next: the numbers from 1 on, one after another, and after the last the first again.
use Rattle.std.specs.Prelude.{◌≡◌, ℕ, zero, suc, ◌+◌, ◌%◌, ◌<◌, nat_eq, Bool, true, false, List, if◌then◌else◌}
use Rattle.std.specs.List.{Contains, list_any}

-- the number that comes after `last` when so many are passed over: last + 1, last + 2, .., with 1 after 1,048,575
abbrev pub following : ℕ → ℕ → ℕ
following last passed = (last + passed) % 1_048_575 + 1

-- n is the first number after `last` that is not taken
abbrev pub IsNextFree : ℕ → List ℕ → ℕ → Type 0
IsNextFree last taken n =
    (passed : ℕ) × (n ≡ following last passed) × (Contains taken n → ⊥) × ((k : ℕ) → k < passed → Contains taken (following last k))

-- n is the first of these numbers that is not taken, once `base` of them are passed over
abbrev pub IsFirstFree : ℕ → ℕ → List ℕ → ℕ → Type 0
IsFirstFree last base taken n =
    (k : ℕ) × (n ≡ following last (base + k)) × (Contains taken n → ⊥) × ((j : ℕ) → j < k → Contains taken (following last (base + j)))

abbrev pub is_taken : ℕ → List ℕ → Bool
is_taken n taken = list_any (nat_eq n) taken

-- the same computed, where at most so many are passed over
unfoldable pub next_within : ℕ → ℕ → List ℕ → ℕ
next_within zero last taken = following last 0
next_within (suc most) last taken = if is_taken (following last 0) taken then next_within most (following last 0) taken else following last 0

-- the first number after `last` that is not taken, where fewer than all are
abbrev pub next_free : ℕ → List ℕ → ℕ
next_free last taken = next_within 1_048_575 last taken
