use Rattle.std.proofs.Common.{◌∙◌, refl}
use Rattle.login_state.specs.Orders.{update_rules}
use Rattle.login_state.proofs.Firsts.{is_first}
use Rattle.login_state.proofs.checks.check_update.Goals as goal

pub returns-clause-exact : goal.returns-clause-exact
returns-clause-exact c =
    c.first_denial.ensures
    ∙ rw (c.wrong_words.ensures, c.foreign_id.ensures, c.bad_value.ensures, c.bad_nick.ensures, c.account_touched.ensures, c.wrong_address.ensures, c.too_many_fields.ensures, c.nick_taken.ensures) refl

pub returns-clause-first : goal.returns-clause-first
returns-clause-first c = is_first c.first_denial.result (update_rules c.args.ask.now) (returns-clause-exact c)
