use Rattle.std.proofs.Common.{◌≡◌, drop}
use Rattle.hub_rules.specs.Accounts.{account_with}
use Rattle.hub_setup.proofs.accounts.find_user.Given as goal

abbrev pub invariant-users : goal.invariant-users
invariant-users l = account_with l.key l.users ≡ account_with l.key (drop l.user-index l.users)
