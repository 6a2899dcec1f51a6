use Rattle.std.proofs.Common.{◌∙◌, sym}
use Rattle.std.proofs.lemmas.List.{take_rest}
use Rattle.feature_route.proofs.Parts.{meets-no, meets-yes, meets-short}
use Rattle.feature_route.proofs.want.meets.Goals as goal

pub returns-then-not-suits : goal.returns-then-not-suits
returns-then-not-suits g c =
    sym (meets-no _ _ _ c.in-len5-up.len_at_least c.has-had.ensures (sym c.suits.ensures ∙ c.if-not-suits.true)) ∙ c.parts.invariant

pub parts-preserved : goal.parts-preserved
parts-preserved g c =
    rw take_rest (sym (meets-yes _ _ _ c.in-len5-up.len_at_least c.has-had.ensures (sym c.suits.ensures ∙ c.if-not-suits.false)) ∙ c.parts.invariant)

pub returns : goal.returns
returns g c = sym (meets-short _ _ c.in_default.len_below) ∙ c.parts.invariant
