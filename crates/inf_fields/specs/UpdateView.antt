-- An update as contracts see it: its fields in order.
use Rattle.std.specs.Prelude.{List}
use Rattle.inf_fields.specs.Field.{Field}
use Rattle.inf_fields.specs.Stored.{fields_of}
use Rattle.inf_fields.specs.declared.update.Update.TheInside.{Inside}

abbrev pub fields_said : Inside → List Field
fields_said u = fields_of u.entries.entries
