-- The bytes that a failing write leaves written.
use Rattle.std.specs.Prelude.{◌≡◌, ℕ, List, ◌++◌, Option}
use Rattle.std.specs.Io.KnownBytes.{Appends}

-- the known bytes grow by the front of bs
abbrev pub AppendsFront : Option (List ℕ) → Option (List ℕ) → List ℕ → Type 0
AppendsFront old new bs = (front : List ℕ) × (rest : List ℕ) × (bs ≡ front ++ rest) × Appends old new front
