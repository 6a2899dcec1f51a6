use Rattle.std.proofs.Common.{◌≡◌, ◌++◌, drop, map}
use Rattle.std.specs.Option.{option_map}
use Rattle.toml.specs.View.{items_view}
use Rattle.hub_settings.specs.Lists.{all_commands}
use Rattle.hub_setup.specs.Settings.{entry_of}
use Rattle.hub_settings.proofs.command_list.all_commands.Given as goal

abbrev pub invariant-items : goal.invariant-items
invariant-items l =
    all_commands (items_view l.item-items) ≡ option_map (λ rest. map entry_of l.commands.items ++ rest) (all_commands (items_view (drop l.item-index l.item-items)))
