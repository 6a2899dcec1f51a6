use Rattle.std.proofs.Common.{◌≡◌, ℕ, ◌+◌, List, subst, length, ap, ◌∙◌, sym}
use Rattle.std.proofs.lemmas.Map.Iter.{rest_more, rest_all}
use Rattle.std.specs.Map.Iter.{deref_pair}
use Rattle.std.specs.Prelude.{◌==◌, nat_le}
use Rattle.inf_fields.specs.Field.{has_name}
use Rattle.inf_fields.proofs.Changes.{Apart}
use Rattle.inf_fields.proofs.EntryLemmas.{has_name-fields, length-fields, Apart-from_distinct}
use Rattle.inf_fields.proofs.Tallies.{tally-taken, tally-kept, tally-added, tally-absent, tally-fits}
use Rattle.inf_fields.proofs.fields.Fields.fits.Goals as goal

pub loop-name-preserved-then-is_empty : goal.loop-name-preserved-then-is_empty
loop-name-preserved-then-is_empty c =
    let more = rest_more deref_pair c.loop-name.name-iterator c.next.new.self c.next.result (c.in-Some.name, c.in-Some.value) c.in-Some.is c.next.ensures.steps in
    tally-taken c.args.self.now c.args.update.now c.loop-name.name-iterator c.next.new.self c.in-Some.name.now c.in-Some.value.now c.loop-name.added c.loop-name.taken c.loop-name.invariant more
    (ap (has_name c.in-Some.name.now) (sym c.self.view_is) ∙ sym (has_name-fields c.in-Some.name.now c.self.inside.entries.entries) ∙ sym c.contains_key.ensures ∙ c.if-contains_key.true)
    (ap (λ (bs : List ℕ). length bs == 0) (sym c.as_str.ensures.value) ∙ sym c.is_empty.ensures ∙ c.if-is_empty.true)

pub loop-name-preserved-else-is_empty : goal.loop-name-preserved-else-is_empty
loop-name-preserved-else-is_empty c =
    let more = rest_more deref_pair c.loop-name.name-iterator c.next.new.self c.next.result (c.in-Some.name, c.in-Some.value) c.in-Some.is c.next.ensures.steps in
    tally-kept c.args.self.now c.args.update.now c.loop-name.name-iterator c.next.new.self c.in-Some.name.now c.in-Some.value.now c.loop-name.added c.loop-name.taken c.loop-name.invariant more
    (ap (has_name c.in-Some.name.now) (sym c.self.view_is) ∙ sym (has_name-fields c.in-Some.name.now c.self.inside.entries.entries) ∙ sym c.contains_key.ensures ∙ c.if-contains_key.true)
    (ap (λ (bs : List ℕ). length bs == 0) (sym c.as_str.ensures.value) ∙ sym c.is_empty.ensures ∙ c.if-is_empty.false)

pub loop-name-preserved-then-not-is_empty : goal.loop-name-preserved-then-not-is_empty
loop-name-preserved-then-not-is_empty c =
    let more = rest_more deref_pair c.loop-name.name-iterator c.next.new.self c.next.result (c.in-Some.name, c.in-Some.value) c.in-Some.is c.next.ensures.steps in
    tally-added c.args.self.now c.args.update.now c.loop-name.name-iterator c.next.new.self c.in-Some.name.now c.in-Some.value.now c.loop-name.added c.loop-name.taken c.loop-name.invariant more
    (ap (has_name c.in-Some.name.now) (sym c.self.view_is) ∙ sym (has_name-fields c.in-Some.name.now c.self.inside.entries.entries) ∙ sym c.contains_key.ensures ∙ c.if-contains_key.false)
    (ap (λ (bs : List ℕ). length bs == 0) (sym c.as_str-else-contains_key.ensures.value) ∙ sym c.is_empty-else-contains_key.ensures ∙ c.if-not-is_empty.true)

pub loop-name-preserved : goal.loop-name-preserved
loop-name-preserved c =
    let more = rest_more deref_pair c.loop-name.name-iterator c.next.new.self c.next.result (c.in-Some.name, c.in-Some.value) c.in-Some.is c.next.ensures.steps in
    tally-absent c.args.self.now c.args.update.now c.loop-name.name-iterator c.next.new.self c.in-Some.name.now c.in-Some.value.now c.loop-name.added c.loop-name.taken c.loop-name.invariant more
    (ap (has_name c.in-Some.name.now) (sym c.self.view_is) ∙ sym (has_name-fields c.in-Some.name.now c.self.inside.entries.entries) ∙ sym c.contains_key.ensures ∙ c.if-contains_key.false)
    (ap (λ (bs : List ℕ). length bs == 0) (sym c.as_str-else-contains_key.ensures.value) ∙ sym c.is_empty-else-contains_key.ensures ∙ c.if-not-is_empty.false)

pub returns : goal.returns
returns c =
    let none = rest_all deref_pair c.loop-name.name-iterator c.next.new.self c.next.result c.in-None.is c.next.ensures.steps in
    let apart = subst Apart c.self.view_is (Apart-from_distinct c.self.inside.entries.entries c.len.ensures.unique) in
    let apart' = subst Apart c.update.view_is (Apart-from_distinct c.update.inside.entries.entries c.into_iter-name-iterator.ensures.into_iter_gives.4) in
    let len : c.len.result ≡ length c.args.self.now = c.len.ensures.len ∙ sym (length-fields c.self.inside.entries.entries) ∙ ap length c.self.view_is in
    ap (λ n. nat_le (n + c.loop-name.added) (40 + c.loop-name.taken)) len
    ∙ tally-fits c.args.self.now c.args.update.now c.loop-name.name-iterator c.loop-name.added c.loop-name.taken c.loop-name.invariant none apart apart'
