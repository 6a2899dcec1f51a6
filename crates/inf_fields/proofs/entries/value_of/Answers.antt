use Rattle.std.proofs.Common.{ap, ◌∙◌}
use Rattle.std.specs.Prelude.{Some}
use Rattle.std.specs.Option.{option_map}
use Rattle.std.specs.String.{string_bytes}
use Rattle.inf_fields.proofs.EntryLemmas.{value_of-fields}
use Rattle.inf_fields.proofs.entries.value_of.Goals as goal

pub returns-in-Some : goal.returns-in-Some
returns-in-Some c = ap Some c.as_str.ensures.value ∙ ap (option_map string_bytes) c.in-Some.ensures.value ∙ value_of-fields c.args.name c.args.entries.now.entries

pub returns-in-None : goal.returns-in-None
returns-in-None c = ap (option_map string_bytes) c.in-None.ensures.value ∙ value_of-fields c.args.name c.args.entries.now.entries
