use Rattle.std.proofs.Common.{ap, refl, [], ◌∷◌}
use Rattle.hub_examples.specs.Conversations.{plain, zeros}
use Rattle.hub_examples.specs.Pings.{hub_asked}
use Rattle.hub_examples.specs.Searches.{late_search, patient}
use Rattle.hub_examples.proofs.Opened.{computing}
use Rattle.hub_examples.proofs.Played.{computed}
use Rattle.hub_examples.proofs.worked_conversations.worked_questions.Goals as goal

pub returns-clause-ping : goal.returns-clause-ping
unfolding computing
returns-clause-ping c hash same =
    let comes = computed plain hash (zeros ∷ []) (same, tt) hub_asked _ refl in (comes.legal, ap (λ f. (f.about 2).owed) comes.known)

pub returns-clause-interval : goal.returns-clause-interval
unfolding computing
returns-clause-interval c hash same =
    let comes = computed patient hash (zeros ∷ []) (same, tt) late_search _ refl in (comes.legal, ap (λ f. (f.about 1).owed) comes.known)
