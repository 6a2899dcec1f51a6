use Rattle.std.proofs.Common.{◌≡◌, length, map, take}
use Rattle.hub_rules.specs.Effects.{line_of}
use Rattle.hub_decisions.proofs.entering.present_lines.Given as goal

abbrev pub invariant-loop-place : goal.invariant-loop-place
invariant-loop-place l = record {
  told : l.batch ≡ map (line_of l.hub) (take l.place l.hub.users);
  counted : l.count ≡ length l.hub.users;
}
