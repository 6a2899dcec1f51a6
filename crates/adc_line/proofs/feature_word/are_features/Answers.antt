use Rattle.std.proofs.Common.{◌∙◌, sym}
use Rattle.std.proofs.lemmas.List.{take_rest}
use Rattle.adc_line.proofs.WordLemmas.{are_features-no, are_features-yes, are_features-short}
use Rattle.adc_line.proofs.feature_word.are_features.Goals as goal

pub returns-then-not-is_feature : goal.returns-then-not-is_feature
returns-then-not-is_feature c =
    sym (are_features-no _ c.in-len5-up.len_at_least (sym c.is_feature.ensures ∙ c.if-not-is_feature.true)) ∙ c.parts.invariant

pub parts-preserved : goal.parts-preserved
parts-preserved c =
    rw take_rest (sym (are_features-yes _ c.in-len5-up.len_at_least (sym c.is_feature.ensures ∙ c.if-not-is_feature.false)) ∙ c.parts.invariant)

pub returns : goal.returns
returns c = c.is_empty.ensures ∙ sym (are_features-short _ c.in_default.len_below) ∙ c.parts.invariant
