use Rattle.std.proofs.Common.{rules}
use Rattle.login_state.specs.Orders.{sup_rules}
use Rattle.login_state.proofs.Firsts.{is_first}
use Rattle.login_state.proofs.checks.check_sup.Goals as goal

pub returns-clause-exact : goal.returns-clause-exact
returns-clause-exact c = search rules

pub returns-clause-first : goal.returns-clause-first
returns-clause-first c = is_first c.first_denial.result (sup_rules c.args.features.now) (returns-clause-exact c)
