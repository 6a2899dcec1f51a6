use Rattle.inf_fields.specs.Stored.{fields_of}
use Rattle.inf_fields.proofs.Changes.{found-filled}
use Rattle.inf_fields.proofs.fields.Fields.get.Goals as goal

pub returns-clause-filled : goal.returns-clause-filled
returns-clause-filled c = found-filled c.args.name (fields_of c.self.inside.entries.entries) c.value_of.result c.self.invariant.0 c.value_of.ensures
