-- Places in a text.
use Rattle.std.specs.Prelude.{◌≡◌, ℕ, ◌+◌, min, Bool, ◌==◌, List, [], ◌∷◌, ◌++◌, ◌⊎◌, count_by}
use Rattle.std.specs.Fmt.{is_char_start}
use Rattle.settings_report.specs.declared.places.TextPlace.{TextPlace}

-- the number of the next, counted from 1, up to the greatest that a machine counts
abbrev pub after : ℕ → ℕ
after before = min (before + 1) 18_446_744_073_709_551_615

abbrev pub is_line_feed : ℕ → Bool
is_line_feed byte = byte == 10

abbrev pub EndsWithLineFeed : List ℕ → Type 0
EndsWithLineFeed text = (before : List ℕ) × (text ≡ before ++ 10 ∷ [])

-- the place behind a text, of whose lines all but the last are whole: the line is counted in line feeds, the column in characters
abbrev pub IsBehind : List ℕ → TextPlace → Type 0
IsBehind text place =
    (lines : List ℕ) × (last : List ℕ) × (text ≡ lines ++ last) × ((lines ≡ []) ⊎ EndsWithLineFeed lines) × (count_by is_line_feed last ≡ 0)
    × (place.line ≡ after (count_by is_line_feed lines)) × (place.column ≡ after (count_by is_char_start last))
