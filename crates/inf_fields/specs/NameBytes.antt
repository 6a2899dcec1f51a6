-- A field's name as contracts see it: its two bytes.
use Rattle.std.specs.Prelude.{ℕ, List, IsTrue}
use Rattle.inf_fields.specs.FieldNames.{is_field_name}
use Rattle.inf_fields.specs.declared.name.FieldName.TheInside.{Inside}

abbrev pub name_bytes : Inside → List ℕ
name_bytes n = n.bytes

abbrev pub IsName : Inside → Type 0
IsName n = IsTrue (is_field_name n.bytes)
