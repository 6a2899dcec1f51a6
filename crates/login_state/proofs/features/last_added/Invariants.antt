use Rattle.std.proofs.Common.{◌≡◌, ℕ, List, ◌++◌, length}
use Rattle.std.specs.Prelude.{◌||◌}
use Rattle.login_state.specs.Seen.{is_in, unseen}
use Rattle.login_state.specs.Support.{is_mentioned, features_left}
use Rattle.login_state.proofs.features.last_added.Given as goal

-- what is done and what the mentions that are left still give is the whole
abbrev pub invariant-mentions : goal.invariant-mentions
invariant-mentions l = record {
  names : l.names.items ++ unseen (is_in l.seen) (features_left l.left.items) ≡ features_left l.fn.mentions.items;
  seen : (feature : List ℕ) → (is_in l.seen feature || is_mentioned feature l.left.items) ≡ is_mentioned feature l.fn.mentions.items;
}

abbrev pub decreases-mentions : goal.decreases-mentions
decreases-mentions l = length l.left.items
