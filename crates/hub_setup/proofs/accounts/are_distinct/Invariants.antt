use Rattle.std.proofs.Common.{◌≡◌, map, length}
use Rattle.hub_setup.specs.Settings.{are_distinct}
use Rattle.hub_setup.proofs.accounts.are_distinct.Given as goal

abbrev pub invariant-users : goal.invariant-users
invariant-users l = are_distinct (map (λ user. user.key) l.users) ≡ are_distinct (map (λ user. user.key) l.left)

abbrev pub decreases-users : goal.decreases-users
decreases-users l = length l.left
