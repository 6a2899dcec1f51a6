use Rattle.std.proofs.Common.{◌≡◌, map, drop}
use Rattle.std.specs.List.{list_any}
use Rattle.std.specs.Str.{bytes_eq}
use Rattle.hub_setup.proofs.accounts.has_key.Given as goal

abbrev pub invariant-users : goal.invariant-users
invariant-users l =
    list_any (bytes_eq l.key) (map (λ user. user.key) l.users) ≡ list_any (bytes_eq l.key) (map (λ user. user.key) (drop l.user-index l.users))
