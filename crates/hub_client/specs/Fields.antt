-- The fields of a message: parameters that begin with a name.
use Rattle.std.specs.Prelude.{◌≡◌, ◌⊎◌, IsSome, ◌≢◌, ℕ, List, [], ◌∷◌, ◌++◌, Option, Some, None}
use Rattle.std.specs.List.{All}
use Rattle.adc_line.specs.Escapes.{unescaped_text}

-- the parameter does not begin with the name
abbrev pub Lacks : List ℕ → List ℕ → Type 0
Lacks name word = (value : List ℕ) → word ≢ name ++ value

-- the first of these parameters that has the name has this value, as it is spelt; or none has the name
abbrev pub IsField : List ℕ → List (List ℕ) → Option (List ℕ) → Type 0
IsField name words (Some value) =
    (before : List (List ℕ)) × (behind : List (List ℕ)) × (words ≡ before ++ (name ++ value) ∷ behind) × All (Lacks name) before
IsField name words None = All (Lacks name) words

-- the text that a value spells; none spells the empty text
abbrev pub spelt_text : Option (List ℕ) → Option (List ℕ)
spelt_text (Some value) = unescaped_text value
spelt_text None = Some []

-- the text of the field with this name; empty where there is none
abbrev pub IsFieldText : List ℕ → List (List ℕ) → List ℕ → Type 0
IsFieldText name words text = (value : Option (List ℕ)) × IsField name words value × (spelt_text value ≡ Some text)

-- the first of these parameters that has the name spells no text
abbrev pub IsMisspelt : List ℕ → List (List ℕ) → Type 0
IsMisspelt name words = (value : Option (List ℕ)) × IsField name words value × (spelt_text value ≡ None)

-- the value of the first of these fields that the parameters have, if they have one
abbrev pub IsFirstField : List (List ℕ) → List (List ℕ) → Option (List ℕ) → Type 0
IsFirstField [] words value = value ≡ None
IsFirstField (name ∷ names) words value = (IsField name words value × IsSome value) ⊎ (IsField name words None × IsFirstField names words value)
