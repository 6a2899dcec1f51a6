use Rattle.std.proofs.Common.{take}
use Rattle.toml.specs.View.{items_view}
use Rattle.settings_report.specs.Warned.{WarnsOfItems}
use Rattle.settings_report.proofs.warnings.warnings_of_items.Given as goal

-- the warnings of the entries so far
abbrev pub invariant-loop-before : goal.invariant-loop-before
invariant-loop-before l = WarnsOfItems 0 (items_view (take l.before l.items)) l.found.items
