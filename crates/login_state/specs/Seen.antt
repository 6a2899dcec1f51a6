-- A set of features that were seen.
use Rattle.std.specs.Prelude.{ℕ, Bool, not, List}
use Rattle.std.specs.BTreeSet.{BTreeSet, contains}
use Rattle.std.specs.Cmp.Lexicographic.{slice_cmp}
use Rattle.std.specs.List.{filter}
use Rattle.std.specs.Ordering.{nat_cmp}

abbrev pub is_in : BTreeSet (List ℕ) → List ℕ → Bool
is_in set feature = contains (slice_cmp nat_cmp) set feature

-- those that were not seen
abbrev pub unseen : (List ℕ → Bool) → List (List ℕ) → List (List ℕ)
unseen is_seen features = filter (λ feature. not (is_seen feature)) features
