use Rattle.std.proofs.Common.{◌≡◌, drop}
use Rattle.login_state.specs.Checks.{first_denial}
use Rattle.login_state.proofs.checks.first_denial.Given as goal

abbrev pub invariant-loop-rule : goal.invariant-loop-rule
invariant-loop-rule l = first_denial (drop l.rule-index l.rules) ≡ first_denial l.rules
