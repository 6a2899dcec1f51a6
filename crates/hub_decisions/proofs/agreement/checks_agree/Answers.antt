use Rattle.hub_decisions.proofs.CheckGrounds.{entry-grounds, login-grounds, password-grounds, sup-grounds, update-grounds}
use Rattle.hub_decisions.proofs.agreement.checks_agree.Goals as goal

pub returns-clause-sup : goal.returns-clause-sup
returns-clause-sup c = sup-grounds

pub returns-clause-login : goal.returns-clause-login
returns-clause-login c = login-grounds

pub returns-clause-update : goal.returns-clause-update
returns-clause-update c = update-grounds

pub returns-clause-entry : goal.returns-clause-entry
returns-clause-entry c = entry-grounds

pub returns-clause-password : goal.returns-clause-password
returns-clause-password c = password-grounds
