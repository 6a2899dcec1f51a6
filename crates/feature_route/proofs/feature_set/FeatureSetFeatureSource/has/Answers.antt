use Rattle.std.proofs.Common.{◌∙◌, ap}
use Rattle.feature_route.specs.Matching.{has}
use Rattle.feature_route.proofs.Names.{has-ordered}
use Rattle.feature_route.proofs.feature_set.FeatureSetFeatureSource.has.Goals as goal

pub returns : goal.returns
returns c = c.contains.ensures ∙ has-ordered c.self.inside.names.keys c.args.name ∙ ap (λ names. has names c.args.name) c.self.view_is
