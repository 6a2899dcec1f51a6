use Rattle.hub_laws.proofs.Public.{info_is_public}
use Rattle.hub_laws.proofs.Updates.{updates_are_heard, updates_are_passed}
use Rattle.hub_laws.proofs.laws.secret_laws.Goals as goal

pub returns-clause-info : goal.returns-clause-info
returns-clause-info c = info_is_public

pub returns-clause-passed : goal.returns-clause-passed
returns-clause-passed c = updates_are_passed

pub returns-clause-heard : goal.returns-clause-heard
returns-clause-heard c = updates_are_heard
