use Rattle.std.proofs.Common.{◌∙◌, refl}
use Rattle.login_state.specs.Orders.{entry_rules}
use Rattle.login_state.proofs.Firsts.{is_first}
use Rattle.login_state.proofs.checks.check_entry.Goals as goal

pub returns-clause-exact : goal.returns-clause-exact
returns-clause-exact c = c.first_denial.ensures ∙ rw (c.ban_denial.ensures, c.nick_taken.ensures, c.cid_taken.ensures) refl

pub returns-clause-first : goal.returns-clause-first
returns-clause-first c = is_first c.first_denial.result (entry_rules c.args.ask.now) (returns-clause-exact c)
