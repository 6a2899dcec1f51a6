use Rattle.hub_laws.proofs.AccountPasswords.{nicks_are_proved, only_accounts_enter}
use Rattle.hub_laws.proofs.laws.account_laws.Goals as goal

pub returns-clause-proved : goal.returns-clause-proved
returns-clause-proved c = nicks_are_proved

pub returns-clause-registered : goal.returns-clause-registered
returns-clause-registered c = only_accounts_enter
