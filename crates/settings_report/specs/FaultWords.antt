-- The words of a report for what stands where a fault is.
use Rattle.std.specs.Prelude.{◌≡◌, ℕ, false, List, [], ◌∷◌, ◌++◌, codes}
use Rattle.toml.specs.Data.{Data, string, integer, float, boolean, datetime, array, table}
use Rattle.toml.specs.Text.{IsValueText}
use Rattle.toml.specs.View.{view}
use Rattle.settings_report.specs.declared.findings.Found.{Found}
use Rattle.settings_report.specs.declared.findings.Found.TheVariants as found

-- the kind of a value, and whether it is an empty text: nothing else of the value
abbrev pub kind_words : Data → List ℕ
kind_words (string []) = codes "an empty text"
kind_words (string (b ∷ bs)) = codes "a text"
kind_words (integer z) = codes "a whole number"
kind_words (float x) = codes "a number that is not whole"
kind_words (boolean b) = codes "true or false"
kind_words (datetime d) = codes "a date or a time"
kind_words (array ds) = codes "a list"
kind_words (table ms) = codes "a table"

-- a value as TOML writes it; a list or a table by its kind
abbrev pub IsShown : Data → List ℕ → Type 0
IsShown (array ds) words = words ≡ kind_words (array ds)
IsShown (table ms) words = words ≡ kind_words (table ms)
IsShown value words = IsValueText false value words

-- the words for what was found
abbrev pub IsFindingText : Found → List ℕ → Type 0
IsFindingText (found.Value value) words = IsShown (view value.now) words
IsFindingText (found.Secret value) words = words ≡ kind_words (view value.now)
IsFindingText found.Unknown words = words ≡ codes "an unknown key"
IsFindingText found.Nothing words = words ≡ codes "nothing"
IsFindingText found.Surplus words = words ≡ codes "one more"
IsFindingText (found.Twice value) words = (shown : List ℕ) × IsShown (view value.now) shown × (words ≡ shown ++ codes " once more")

-- the words for what was found show no value
abbrev pub IsConcealed : Found → Type 0
IsConcealed (found.Value value) = ⊥
IsConcealed (found.Twice value) = ⊥
IsConcealed found = Unit {0}

-- the words that show no value
abbrev pub concealing_words : List (List ℕ)
concealing_words =
    codes "an unknown key"
    ∷ codes "nothing"
    ∷ codes "one more"
    ∷ codes "an empty text"
    ∷ codes "a text"
    ∷ codes "a whole number"
    ∷ codes "a number that is not whole"
    ∷ codes "true or false"
    ∷ codes "a date or a time"
    ∷ codes "a list"
    ∷ codes "a table"
    ∷ []
