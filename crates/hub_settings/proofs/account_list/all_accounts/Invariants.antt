use Rattle.std.proofs.Common.{◌≡◌, ◌++◌, drop, map}
use Rattle.std.specs.Option.{option_map}
use Rattle.toml.specs.View.{items_view}
use Rattle.hub_settings.specs.Lists.{all_accounts}
use Rattle.hub_setup.specs.Settings.{account_text}
use Rattle.hub_settings.proofs.account_list.all_accounts.Given as goal

abbrev pub invariant-items : goal.invariant-items
invariant-items l =
    all_accounts (items_view l.item-items) ≡ option_map (λ rest. map account_text l.accounts.items ++ rest) (all_accounts (items_view (drop l.item-index l.item-items)))
