use Rattle.std.proofs.Common.{◌≡◌, drop, map}
use Rattle.std.specs.List.{list_all}
use Rattle.hub_setup.specs.Settings.{entry_of, is_command}
use Rattle.hub_setup.proofs.menu.are_commands.Given as goal

abbrev pub invariant-entries : goal.invariant-entries
invariant-entries l = list_all is_command (map entry_of l.entries) ≡ list_all is_command (map entry_of (drop l.entry-index l.entries))
