-- The fields that a map from names to values holds, in its order.
use Rattle.std.specs.Prelude.{ℕ, List, map, String}
use Rattle.std.specs.String.{string_bytes}
use Rattle.inf_fields.specs.Field.{Field, field}

abbrev pub fields_of : {A : Type 0} → List (List ℕ × String A) → List Field
fields_of entries = map (λ e. field e.0 (string_bytes e.1)) entries
