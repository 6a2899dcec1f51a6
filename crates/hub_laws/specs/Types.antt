-- Nobody is shown as an operator (CT4) but who is present under the nick of an operator's account.
use Rattle.std.specs.Prelude.{◌≡◌, ℕ, true, List, codes}
use Rattle.std.specs.List.{list_any}
use Rattle.std.specs.Str.{bytes_eq}
use Rattle.hub_rules.specs.declared.history.Entry.{Entry}
use Rattle.hub_rules.specs.Accounts.{operates}
use Rattle.hub_rules.specs.Configured.{Configured}
use Rattle.hub_laws.specs.Lists.{pieces}
use Rattle.hub_laws.specs.Registered.{account_at}
use Rattle.hub_laws.specs.Welcome.{info_line}

-- the line that says who the user of a connection is has the word CT4 only where the account of its nick is an operator's
abbrev pub OperatorsHaveAccounts : Type 0
OperatorsHaveAccounts =
    (setup : Configured) (hash : List ℕ → List ℕ) (h : List Entry) (c : ℕ) → list_any (bytes_eq (codes "CT4")) (pieces (info_line setup hash h c)) ≡ true
    → operates (account_at setup hash h c) ≡ true
