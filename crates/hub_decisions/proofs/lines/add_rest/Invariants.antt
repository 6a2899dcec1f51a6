use Rattle.std.proofs.Common.{◌≡◌, ◌++◌, List, length, map, take}
use Rattle.user_table.specs.Listed.{Listed}
use Rattle.hub_decisions.specs.Present.{AreFirst, kept_line}
use Rattle.hub_decisions.proofs.lines.add_rest.Given as goal

abbrev pub invariant-loop-place : goal.invariant-loop-place
invariant-loop-place l = record {
  written : (before more : List Listed) → l.users ≡ before ++ more → AreFirst l.setup before l.fn.lines.items → l.lines.items ≡ map (kept_line l.setup) (take l.place l.users);
  counted : l.count ≡ length l.users;
}
