-- The fields of a user after updates, oldest first (ADC 1.0, "INF"): another value takes the place of the one before, and an empty one takes the field away.
use Rattle.std.specs.Prelude.{ℕ, Bool, true, false, not, List, [], ◌∷◌, ◌++◌, map, filter, Option, Some, None, Result}
use Rattle.std.specs.List.{list_all}
use Rattle.std.specs.Option.{unwrap_or, option_or}
use Rattle.inf_fields.specs.Field.{Field, field, value_of, besides}
use Rattle.inf_fields.specs.Updates.{are_few, unless_too_many}
use Rattle.inf_fields.specs.declared.fault.InfFault.{InfFault}

abbrev pub is_empty_value : Option (List ℕ) → Bool
is_empty_value None = false
is_empty_value (Some []) = true
is_empty_value (Some (b ∷ more)) = false

-- none of the updates gives the name the empty value
abbrev pub leave : List (List Field) → List ℕ → Bool
leave updates name = list_all (λ u. not (is_empty_value (value_of name u))) updates

-- the last value that updates give a name, or the one before where none of them names it
abbrev pub latest : List (List Field) → List ℕ → List ℕ → List ℕ
latest [] name value = value
latest (u ∷ later) name value = latest later name (unwrap_or (value_of name u) value)

-- what updates leave of fields, in place, with the values that they have then
abbrev pub settled_fields : List (List Field) → List Field → List Field
settled_fields updates fields = map (λ f. field f.name (latest updates f.name f.value)) (filter (λ f. leave updates f.name) fields)

-- fields, and behind them the others of more
abbrev pub followed_by : List Field → List Field → List Field
followed_by fields more = fields ++ besides fields more

-- The fields after updates, each with the last value that it was given. They stand in the order of the updates since which they are there, and then of
-- the place in that update. A field is there since the first update that names it after the last one that emptied it. So what the first update
-- names and neither it nor a later one empties stands first, and the rest is as the later updates have it.
unfoldable pub merged_fields : List (List Field) → List Field
merged_fields [] = []
merged_fields (u ∷ later) = followed_by (settled_fields (u ∷ later) u) (merged_fields later)

-- a field with the value that an update gives its name, where it gives one
abbrev pub renewed : List Field → Field → Field
renewed u f = field f.name (unwrap_or (value_of f.name u) f.value)

-- the fields after one update more: it renews those that are there or takes them away, and its other fields that are not empty come last
unfoldable pub merged_with : List Field → List Field → List Field
merged_with fields u = map (renewed u) (filter (λ (f : Field). not (is_empty_value (value_of f.name u))) (fields ++ besides fields u))

-- the same, where they are not too many
abbrev pub merging : List Field → List Field → Result (List Field) InfFault
merging fields u = unless_too_many (merged_with fields u)

-- whether they are not too many
abbrev pub fits : List Field → List Field → Bool
fits fields u = are_few (merged_with fields u)

-- the value that the last update that names a name gives it
abbrev pub last_value : List ℕ → List (List Field) → Option (List ℕ)
last_value name [] = None
last_value name (u ∷ later) = option_or (last_value name later) (value_of name u)

-- a value that is not empty
abbrev pub if_filled : Option (List ℕ) → Option (List ℕ)
if_filled None = None
if_filled (Some []) = None
if_filled (Some (b ∷ more)) = Some (b ∷ more)
