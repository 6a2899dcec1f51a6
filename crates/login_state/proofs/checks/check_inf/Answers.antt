use Rattle.std.proofs.Common.{◌∙◌, refl}
use Rattle.login_state.specs.Orders.{inf_rules}
use Rattle.login_state.proofs.Firsts.{is_first}
use Rattle.login_state.proofs.checks.check_inf.Goals as goal

pub returns-clause-exact : goal.returns-clause-exact
returns-clause-exact c =
    c.first_denial.ensures
    ∙ rw (c.wrong_words.ensures, c.missing.ensures, c.missing-2.ensures, c.missing-3.ensures, c.bad_required.ensures, c.bad_required-2.ensures, c.bad_value.ensures, c.foreign_pid.ensures, c.bad_nick_of_login.ensures, c.ban_denial.ensures, c.wrong_address.ensures, c.registration_denial.ensures, c.nick_taken.ensures, c.cid_taken.ensures) refl

pub returns-clause-first : goal.returns-clause-first
returns-clause-first c = is_first c.first_denial.result (inf_rules c.args.ask.now) (returns-clause-exact c)
