-- The lines of a stream of bytes (ADC 1.0, "Message syntax").
use Rattle.std.specs.Prelude.{ℕ, Bool, nat_le, List, [], ◌∷◌, ◌++◌, length, ◌≤◌}
use Rattle.std.specs.List.{slice_split, take_while, flat_map}
use Rattle.adc_line.specs.Frames.{lf, max_line, is_lf, HasNoLf}

-- all but the last
abbrev pub all_but_last : List (List ℕ) → List (List ℕ)
all_but_last [] = []
all_but_last (piece ∷ []) = []
all_but_last (piece ∷ next ∷ more) = piece ∷ all_but_last (next ∷ more)

-- the frames: what each line feed ends. Behind the last one is the rest.
abbrev pub frames : List ℕ → List (List ℕ)
frames bytes = all_but_last (slice_split is_lf bytes)

abbrev pub is_short : List ℕ → Bool
is_short frame = nat_le (length frame) max_line

-- the lines: the frames before the first that is too long
unfoldable pub lines : List ℕ → List (List ℕ)
lines bytes = take_while is_short (frames bytes)

-- what may be a line of a stream
abbrev pub IsLine : List ℕ → Type 0
IsLine line = HasNoLf line × (length line ≤ max_line)

-- lines as a stream has them, each ended by a line feed
abbrev pub joined_lines : List (List ℕ) → List ℕ
joined_lines ended = flat_map (λ line. line ++ lf ∷ []) ended
