-- The words of a line: what stands between its blanks (ADC 1.0, "Message syntax").
use Rattle.std.specs.Prelude.{ℕ, ◌==◌, Bool, List, [], slice_index_or}
use Rattle.std.specs.List.{slice_split}

-- a blank
abbrev pub blank : ℕ
blank = 32

abbrev pub is_blank : ℕ → Bool
is_blank b = b == blank

-- two blanks together have an empty word between them, and so has a blank at an end
abbrev pub words : List ℕ → List (List ℕ)
words text = slice_split is_blank text

-- the k-th word, from 0 on, and the empty one where there are not so many
abbrev pub word_at : List (List ℕ) → ℕ → List ℕ
word_at ws k = slice_index_or ws k []
