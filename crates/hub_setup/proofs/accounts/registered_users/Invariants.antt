use Rattle.std.proofs.Common.{◌≡◌, ◌++◌, map, drop}
use Rattle.std.specs.List.{list_all}
use Rattle.hub_setup.specs.Settings.{account_of, account_text, is_account}
use Rattle.hub_setup.proofs.accounts.registered_users.Given as goal

-- the users so far and those that are left are all, and what is left decides whether all are accounts
abbrev pub invariant-loop-account : goal.invariant-loop-account
invariant-loop-account l = record {
  users : l.users.items ++ map account_of (map account_text (drop l.account-index l.accounts)) ≡ map account_of (map account_text l.accounts);
  accounts : list_all is_account (map account_text l.accounts) ≡ list_all is_account (map account_text (drop l.account-index l.accounts));
}
