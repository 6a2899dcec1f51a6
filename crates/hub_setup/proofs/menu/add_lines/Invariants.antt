use Rattle.std.proofs.Common.{◌≡◌, ◌++◌, map, drop}
use Rattle.hub_rules.specs.Texts.{menu_line}
use Rattle.hub_setup.proofs.menu.add_lines.Given as goal

-- the messages so far and those that are left are all
abbrev pub invariant-loop-entry : goal.invariant-loop-entry
invariant-loop-entry l = l.batch ++ map menu_line (drop l.entry-index l.menu) ≡ l.fn.batch ++ map menu_line l.menu
