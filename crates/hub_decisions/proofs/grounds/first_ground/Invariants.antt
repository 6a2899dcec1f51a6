use Rattle.std.proofs.Common.{◌≡◌, drop}
use Rattle.hub_rules.specs.Grounds.{first_ground}
use Rattle.hub_decisions.proofs.grounds.first_ground.Given as goal

abbrev pub invariant-loop-holds : goal.invariant-loop-holds
invariant-loop-holds l = first_ground (drop l.holds-index l.grounds) ≡ first_ground l.grounds
