use Rattle.std.proofs.Common.{◌≡◌, ◌++◌}
use Rattle.std.specs.String.{string_bytes}
use Rattle.inf_fields.specs.Field.{printed_fields}
use Rattle.inf_fields.specs.Stored.{fields_of}
use Rattle.inf_fields.proofs.entries.print.Given as goal

abbrev pub invariant-loop-name : goal.invariant-loop-name
invariant-loop-name l = string_bytes l.text ++ printed_fields (fields_of l.name-iterator) ≡ printed_fields (fields_of l.fn.entries.entries)
