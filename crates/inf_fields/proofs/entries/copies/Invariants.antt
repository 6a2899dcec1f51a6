use Rattle.std.proofs.Common.{◌≡◌, ◌++◌}
use Rattle.inf_fields.specs.Stored.{fields_of}
use Rattle.inf_fields.proofs.entries.copies.Given as goal

abbrev pub invariant-loop-name : goal.invariant-loop-name
invariant-loop-name l = fields_of l.pairs.items ++ fields_of l.name-iterator ≡ fields_of l.fn.entries.entries
