use Rattle.std.proofs.Common.{◌≡◌, map}
use Rattle.std.specs.Prelude.{[], fold}
use Rattle.feature_route.proofs.Names.{with_name}
use Rattle.feature_route.proofs.feature_set.FeatureSet.read.Given as goal

abbrev pub invariant-words : goal.invariant-words
invariant-words l = l.names.keys ≡ fold with_name [] (map (λ word. word.now) l.yielded)
