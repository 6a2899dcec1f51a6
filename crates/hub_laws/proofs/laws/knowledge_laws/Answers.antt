use Rattle.hub_laws.proofs.Words.{features_are_last_added, info_is_merged}
use Rattle.hub_laws.proofs.Apart.{cids_differ, nicks_differ}
use Rattle.hub_laws.proofs.laws.knowledge_laws.Goals as goal

pub returns-clause-features : goal.returns-clause-features
returns-clause-features c = features_are_last_added

pub returns-clause-info : goal.returns-clause-info
returns-clause-info c = info_is_merged

pub returns-clause-nicks : goal.returns-clause-nicks
returns-clause-nicks c = nicks_differ

pub returns-clause-identifiers : goal.returns-clause-identifiers
returns-clause-identifiers c = cids_differ
