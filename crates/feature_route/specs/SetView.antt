-- A set of features as contracts see it.
use Rattle.std.specs.Prelude.{ℕ, List}
use Rattle.feature_route.specs.declared.feature_set.FeatureSet.TheInside.{Inside}

-- the names in order, each once
abbrev pub names_in : Inside → List (List ℕ)
names_in set = set.names.keys
