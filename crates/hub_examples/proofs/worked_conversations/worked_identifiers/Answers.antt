use Rattle.std.proofs.Common.{ap, refl, []}
use Rattle.hub_examples.specs.Identifiers.{for_two, let_in}
use Rattle.hub_examples.proofs.Opened.{computing}
use Rattle.hub_examples.proofs.Identifiers.{first-is-given-again}
use Rattle.hub_examples.proofs.Played.{computed}
use Rattle.hub_examples.proofs.worked_conversations.worked_identifiers.Goals as goal

pub returns-clause-next : goal.returns-clause-next
unfolding computing
returns-clause-next c hash = let comes = computed for_two hash [] tt let_in _ refl in (comes.legal, ap (λ f. (f.about 3).owed) comes.known)

pub returns-clause-again : goal.returns-clause-again
returns-clause-again c = first-is-given-again
