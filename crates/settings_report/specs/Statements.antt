-- The lines of a document where statements begin.
use Rattle.std.specs.Prelude.{◌≡◌, ◌≢◌, ℕ, ◌+◌, ◌-◌, List, [], ◌∷◌, length, Option, Some, None, ◌⊎◌}
use Rattle.std.specs.Str.{trim_start}

-- a comment, from its first byte on
abbrev pub IsComment : List ℕ → Type 0
IsComment text = (rest : List ℕ) × (text ≡ 35 ∷ rest)

-- where the first word of a line stands, which is neither blank nor a comment
abbrev pub BeginsAt : List ℕ → ℕ → Option (ℕ × ℕ) → Type 0
BeginsAt line number None = (trim_start line ≡ []) ⊎ IsComment (trim_start line)
BeginsAt line number (Some place) =
    (place.0 ≡ number) × (place.1 ≡ (length line - length (trim_start line)) + 1)
    × (trim_start line ≢ []) × ¬ IsComment (trim_start line)
