use Rattle.std.proofs.Common.{◌≡◌}
use Rattle.std.specs.String.{string_bytes}
use Rattle.inf_fields.specs.Cleaning.{dotted_decimal}
use Rattle.inf_fields.specs.Stored.{fields_of}
use Rattle.inf_fields.proofs.CleanLemmas.{Passed}
use Rattle.inf_fields.proofs.update.Update.clean.Given as goal

abbrev pub invariant-loop-name : goal.invariant-loop-name
invariant-loop-name l = Passed l.fn.self l.fn.peer (fields_of l.entries.entries) l.name-iterator × (string_bytes l.address ≡ dotted_decimal l.fn.peer)
