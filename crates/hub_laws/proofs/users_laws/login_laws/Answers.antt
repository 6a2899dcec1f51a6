use Rattle.hub_laws.proofs.Logins.{logins_are_accepted}
use Rattle.hub_laws.proofs.Logins.{passwords_are_accepted}
use Rattle.hub_laws.proofs.users_laws.login_laws.Goals as goal

pub returns-clause-logins : goal.returns-clause-logins
returns-clause-logins c = logins_are_accepted

pub returns-clause-passwords : goal.returns-clause-passwords
returns-clause-passwords c = passwords_are_accepted
