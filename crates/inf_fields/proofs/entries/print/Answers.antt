use Rattle.std.proofs.Common.{◌++◌, ap, ◌∙◌}
use Rattle.std.proofs.lemmas.Map.Iter.{rest_more, rest_all}
use Rattle.std.specs.Map.Iter.{deref_pair}
use Rattle.std.specs.String.{string_bytes}
use Rattle.inf_fields.specs.Field.{field, printed_fields, printed_field}
use Rattle.inf_fields.specs.Stored.{fields_of}
use Rattle.inf_fields.proofs.EntryLemmas.{printed-step, printed-end}
use Rattle.inf_fields.proofs.entries.print.Goals as goal

pub loop-name-preserved : goal.loop-name-preserved
loop-name-preserved c =
    let more = rest_more deref_pair c.loop-name.name-iterator c.next.new.self c.next.result (c.in-Some.name, c.in-Some.value) c.in-Some.is c.next.ensures.steps in
    printed-step (string_bytes c.loop-name.text) _ (printed_fields (fields_of c.args.entries.now.entries)) c.loop-name.name-iterator c.next.new.self c.in-Some.name.now c.in-Some.value.now c.loop-name.invariant more
    (c.in_ok-push_entry.ensures ∙ ap (λ v. string_bytes c.loop-name.text ++ printed_field (field c.in-Some.name.now v)) c.deref.ensures)

pub returns : goal.returns
returns c =
    let none = rest_all deref_pair c.loop-name.name-iterator c.next.new.self c.next.result c.in-None.is c.next.ensures.steps in
    printed-end (string_bytes c.loop-name.text) (printed_fields (fields_of c.args.entries.now.entries)) c.loop-name.name-iterator c.loop-name.invariant none
