use Rattle.std.proofs.Common.{ap, refl, [], ◌∷◌}
use Rattle.hub_examples.specs.Conversations.{one, plain, said_hi, zeros}
use Rattle.hub_examples.proofs.Opened.{computing}
use Rattle.hub_examples.proofs.Lags.{who-takes-nothing-lags}
use Rattle.hub_examples.proofs.Played.{computed}
use Rattle.hub_examples.proofs.worked_conversations.worked_chats.Goals as goal

pub returns-clause-heard : goal.returns-clause-heard
unfolding computing
returns-clause-heard c hash same same_one =
    let comes = computed plain hash (zeros ∷ one ∷ []) (same, (same_one, tt)) said_hi _ refl in
    (comes.legal, ap (λ f. (f.about 1).owed) comes.known, ap (λ f. (f.about 2).owed) comes.known)

pub returns-clause-lag : goal.returns-clause-lag
returns-clause-lag c = who-takes-nothing-lags
