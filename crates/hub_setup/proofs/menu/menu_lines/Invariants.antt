use Rattle.std.proofs.Common.{◌≡◌, ◌++◌, map, drop}
use Rattle.hub_setup.specs.Settings.{entry_of}
use Rattle.hub_setup.proofs.menu.menu_lines.Given as goal

abbrev pub invariant-loop-entry : goal.invariant-loop-entry
invariant-loop-entry l = l.lines.items ++ map entry_of (drop l.entry-index l.entries) ≡ map entry_of l.entries
