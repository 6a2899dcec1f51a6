-- An index of session identifiers: keys in the order of their bytes, each with an identifier.
use Rattle.std.specs.Prelude.{◌≡◌, ℕ, cond, List, Option}
use Rattle.std.specs.BTreeMap.{is_at}
use Rattle.std.specs.Cmp.Lexicographic.{slice_cmp}
use Rattle.std.specs.Map.{lookup}
use Rattle.std.specs.Ordering.{nat_cmp}
use Rattle.std.specs.Option.{option_map}
use Rattle.std.specs.Str.{bytes_eq}
use Rattle.user_table.specs.Listed.{Listed}

-- the session identifier of a user who is found
abbrev pub sid_of : Option Listed → Option ℕ
sid_of found = option_map (λ (user : Listed). user.sid) found

-- what an index has under a key
abbrev pub sid_at : List (List ℕ × ℕ) → List ℕ → Option ℕ
sid_at index key = lookup (is_at (slice_cmp nat_cmp key)) index

-- the second index has this under the key, and what the first has under each other key
abbrev pub IsSetAt : List ℕ → Option ℕ → List (List ℕ × ℕ) → List (List ℕ × ℕ) → Type 0
IsSetAt key found before after = (other : List ℕ) → sid_at after other ≡ cond (bytes_eq key other) found (sid_at before other)
