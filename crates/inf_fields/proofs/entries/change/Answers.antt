use Rattle.std.proofs.Common.{ℕ, List, length, ap, ◌∙◌, sym}
use Rattle.std.specs.Prelude.{◌==◌}
use Rattle.std.specs.String.{string_bytes}
use Rattle.inf_fields.specs.Stored.{fields_of}
use Rattle.inf_fields.proofs.Changes.{changed-empty, changed-filled}
use Rattle.inf_fields.proofs.EntryLemmas.{fields_of-insert, fields_of-remove}
use Rattle.inf_fields.proofs.entries.change.Goals as goal

pub returns-then-is_empty-clause-fields : goal.returns-then-is_empty-clause-fields
returns-then-is_empty-clause-fields c =
    let old = c.args.entries.now.entries in
    let empty = ap (λ (bs : List ℕ). length bs == 0) (sym c.as_str-text.ensures.value) ∙ sym c.is_empty.ensures ∙ c.if-is_empty.true in
    ap fields_of c.shift_remove.ensures.entries ∙ fields_of-remove c.args.name old ∙ sym (changed-empty c.args.name (string_bytes c.args.value) (fields_of old) empty)

pub returns-else-is_empty-clause-fields : goal.returns-else-is_empty-clause-fields
returns-else-is_empty-clause-fields c =
    let old = c.args.entries.now.entries in
    let filled = ap (λ (bs : List ℕ). length bs == 0) (sym c.as_str-text.ensures.value) ∙ sym c.is_empty.ensures ∙ c.if-is_empty.false in
    let done = rw c.unwrap.ensures at c.insert.ensures.entries in
    ap fields_of done ∙ fields_of-insert c.args.name c.args.value old ∙ sym (changed-filled c.args.name (string_bytes c.args.value) (fields_of old) filled)
