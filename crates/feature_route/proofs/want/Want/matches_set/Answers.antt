use Rattle.std.proofs.Common.{◌∙◌, ap}
use Rattle.feature_route.specs.Wants.{wants_of}
use Rattle.feature_route.specs.Matching.{meets, matches}
use Rattle.feature_route.proofs.Parts.{meets-feature_set}
use Rattle.feature_route.proofs.want.Want.matches_set.Goals as goal

pub returns-clause-text : goal.returns-clause-text
returns-clause-text c =
    λ su is.
    c.meets.ensures
    ∙ ap (λ words. meets (wants_of c.as_bytes.result.now) words) is
    ∙ meets-feature_set c.as_bytes.result.now su
    ∙ ap (λ word. matches (wants_of word) su) c.as_bytes.ensures.value
    ∙ ap (λ wants. matches wants su) c.self.view_is
