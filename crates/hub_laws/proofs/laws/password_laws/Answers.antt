use Rattle.hub_laws.proofs.PasswordRequests.{challenges_are_told}
use Rattle.hub_laws.proofs.Passwords.{passwords_are_not_told}
use Rattle.hub_laws.proofs.laws.password_laws.Goals as goal

pub returns-clause-alike : goal.returns-clause-alike
returns-clause-alike c = passwords_are_not_told

pub returns-clause-asked : goal.returns-clause-asked
returns-clause-asked c = challenges_are_told
