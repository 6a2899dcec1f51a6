use Rattle.std.proofs.Common.{◌≡◌, length}
use Rattle.feature_route.specs.Wants.{wants_of}
use Rattle.feature_route.specs.Matching.{meets}
use Rattle.feature_route.proofs.want.meets.Given as goal

abbrev pub invariant-parts : goal.invariant-parts
invariant-parts g l = meets (wants_of l.rest) (g.F.FeatureSource.words l.features) ≡ meets (wants_of l.word) (g.F.FeatureSource.words l.features)

abbrev pub decreases-parts : goal.decreases-parts
decreases-parts g l = length l.rest
