use Rattle.std.proofs.Common.{ap, ap₂, ◌∙◌, sym, subst}
use Rattle.std.specs.Prelude.{Ok, Err}
use Rattle.std.proofs.lemmas.Bool.{cond-true}
use Rattle.inf_fields.specs.Changes.{all_changed}
use Rattle.inf_fields.specs.FieldsView.{AreFilled}
use Rattle.inf_fields.specs.Updates.{are_few}
use Rattle.inf_fields.specs.Merging.{merged_with}
use Rattle.inf_fields.specs.Stored.{fields_of}
use Rattle.inf_fields.specs.declared.fault.InfFault.TheVariants.{TooMany}
use Rattle.inf_fields.proofs.ChangeLaws.{all_changed-merged}
use Rattle.inf_fields.proofs.Changes.{Apart, all_changed-keeps_filled}
use Rattle.inf_fields.proofs.EntryLemmas.{Apart-from_distinct}
use Rattle.inf_fields.proofs.fields.Fields.merge.Goals as goal

pub returns-clause-merged : goal.returns-clause-merged
returns-clause-merged c =
    let kept = ap fields_of c.in_ok-reserve.ensures.entries ∙ c.self.view_is in
    let apart = subst Apart kept (Apart-from_distinct c.reserve.new.self.entries c.in_ok-reserve.ensures.unique) in
    let apart' = subst Apart c.update.view_is (Apart-from_distinct c.update.inside.entries.entries c.copies.ensures.distinct) in
    c.change_all.ensures ∙ ap₂ all_changed (c.in_ok-pairs.ensures.fields ∙ c.update.view_is) kept ∙ all_changed-merged c.args.update.now c.args.self.now apart' apart

pub returns-clause-exact : goal.returns-clause-exact
returns-clause-exact c =
    let fits' = sym c.fits.ensures ∙ c.if-not-fits.false in
    cond-true _ (Ok (merged_with c.args.self.now c.args.update.now)) (Err TooMany) fits' ∙ ap Ok (sym (returns-clause-merged c))

pub invariant_of-self-2 : goal.invariant_of-self-2
invariant_of-self-2 c =
    let before = subst AreFilled (sym (ap fields_of c.in_ok-reserve.ensures.entries)) c.self.invariant.0 in
    let fits' = sym c.fits.ensures ∙ c.if-not-fits.false in (
      subst AreFilled (sym c.change_all.ensures) (all_changed-keeps_filled (fields_of c.in_ok-pairs.pairs.items) (fields_of c.reserve.new.self.entries) before),
      ap are_few (returns-clause-merged c) ∙ fits',
    )
