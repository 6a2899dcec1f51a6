use Rattle.std.proofs.Common.{ap, ◌∙◌}
use Rattle.inf_fields.specs.Changes.{put}
use Rattle.inf_fields.specs.Field.{field}
use Rattle.inf_fields.specs.Stored.{fields_of}
use Rattle.inf_fields.proofs.EntryLemmas.{fields_of-insert}
use Rattle.inf_fields.proofs.entries.put.Goals as goal

pub returns-in-Ok : goal.returns-in-Ok
returns-in-Ok c =
    let old = c.args.entries.now.entries in
    ap fields_of c.in-Ok.ensures.entries ∙ fields_of-insert c.args.name c.in_ok-value.value old
    ∙ ap (λ v. put (field c.args.name v) (fields_of old)) c.in_ok-value.ensures.ok
