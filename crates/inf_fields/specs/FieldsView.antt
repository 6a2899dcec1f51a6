-- The fields of a user as contracts see them, in order. No value is empty, and there are not too many.
use Rattle.std.specs.Prelude.{◌≢◌, List, [], ◌∷◌, IsTrue}
use Rattle.inf_fields.specs.Field.{Field}
use Rattle.inf_fields.specs.Stored.{fields_of}
use Rattle.inf_fields.specs.Updates.{are_few}
use Rattle.inf_fields.specs.declared.fields.Fields.TheInside.{Inside}

abbrev pub fields_held : Inside → List Field
fields_held f = fields_of f.entries.entries

abbrev pub AreFilled : List Field → Type 0
AreFilled [] = Unit {0}
AreFilled (x ∷ xs) = (x.value ≢ []) × AreFilled xs

abbrev pub IsHeld : Inside → Type 0
IsHeld f = AreFilled (fields_held f) × IsTrue (are_few (fields_held f))
