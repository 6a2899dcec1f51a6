use Rattle.std.proofs.Common.{ap, refl, [], ◌∷◌}
use Rattle.hub_examples.specs.Conversations.{ana_entered, bob_entered, one, one_asked, one_denied, plain, zeros}
use Rattle.hub_examples.proofs.Opened.{computing}
use Rattle.hub_examples.proofs.Played.{computed}
use Rattle.hub_examples.proofs.worked_conversations.worked_logins.Goals as goal

pub returns-clause-answers : goal.returns-clause-answers
unfolding computing
returns-clause-answers c hash = let comes = computed plain hash [] tt one_asked _ refl in (comes.legal, ap (λ f. (f.about 1).owed) comes.known)

pub returns-clause-denial : goal.returns-clause-denial
unfolding computing
returns-clause-denial c hash =
    let comes = computed plain hash [] tt one_denied _ refl in
    (comes.legal, ap (λ f. (f.about 1).owed) comes.known, ap (λ f. (f.about 1).stage) comes.known)

pub returns-clause-login : goal.returns-clause-login
unfolding computing
returns-clause-login c hash same =
    let comes = computed plain hash (zeros ∷ []) (same, tt) ana_entered _ refl in
    (comes.legal, ap (λ f. (f.about 1).owed) comes.known, ap (λ f. f.present) comes.known)

pub returns-clause-both : goal.returns-clause-both
unfolding computing
returns-clause-both c hash same same_one =
    let comes = computed plain hash (zeros ∷ one ∷ []) (same, (same_one, tt)) bob_entered _ refl in
    (comes.legal, ap (λ f. (f.about 2).owed) comes.known, ap (λ f. (f.about 1).owed) comes.known)
