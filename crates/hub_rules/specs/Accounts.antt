-- Registered users, found by the key of their nicks.
use Rattle.std.specs.Prelude.{ℕ, Bool, false, List, Option}
use Rattle.std.specs.List.{find}
use Rattle.std.specs.Option.{option_map_or}
use Rattle.std.specs.Str.{bytes_eq}
use Rattle.hub_rules.specs.Configured.{ConfiguredAccount}

-- the account with this key
unfoldable pub account_with : List ℕ → List ConfiguredAccount → Option ConfiguredAccount
account_with key accounts = find (λ (account : ConfiguredAccount). bytes_eq account.key key) accounts

abbrev pub operates : Option ConfiguredAccount → Bool
operates account = option_map_or (λ (a : ConfiguredAccount). a.operator) account false
