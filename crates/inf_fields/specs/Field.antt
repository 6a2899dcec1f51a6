-- The fields of an INF message (ADC 1.0, "INF"): what is said of a user, each thing under a name of two characters.
use Rattle.std.specs.Prelude.{ℕ, Bool, List, [], ◌∷◌, ◌++◌, not, filter, Option, Some, None, is_some, if◌then◌else◌}
use Rattle.std.specs.List.{flat_map}
use Rattle.std.specs.Str.{bytes_eq}

-- a name, and a value as it is spelt in the message
pub record Field : Type 0 where
  pub name : List ℕ
  pub value : List ℕ

abbrev pub field : List ℕ → List ℕ → Field
field name value = record { name = name; value = value }

abbrev pub is_called : List ℕ → Field → Bool
is_called name f = bytes_eq name f.name

-- the value that fields have under a name
abbrev pub value_of : List ℕ → List Field → Option (List ℕ)
value_of name [] = None
value_of name (f ∷ more) = if is_called name f then Some f.value else value_of name more

abbrev pub has_name : List ℕ → List Field → Bool
has_name name fields = is_some (value_of name fields)

-- the fields whose names others do not have
abbrev pub besides : List Field → List Field → List Field
besides others fields = filter (λ f. not (has_name f.name others)) fields

-- how a field stands in a message: a blank, its name and its value
abbrev pub printed_field : Field → List ℕ
printed_field f = 32 ∷ (f.name ++ f.value)

-- how fields stand in a message, one after another
unfoldable pub printed_fields : List Field → List ℕ
printed_fields fields = flat_map printed_field fields
