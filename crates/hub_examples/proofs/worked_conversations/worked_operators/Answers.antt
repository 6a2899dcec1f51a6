use Rattle.std.proofs.Common.{◌++◌, ap, codes, refl, [], ◌∷◌}
use Rattle.hub_examples.specs.Commands.{other_asked}
use Rattle.hub_examples.specs.Conversations.{one, zeros}
use Rattle.hub_examples.specs.PasswordLogins.{staffed_hub}
use Rattle.hub_examples.specs.Removals.{again_entered, bob_entered, kick_taken, late_entered}
use Rattle.hub_examples.proofs.Opened.{computing}
use Rattle.hub_examples.proofs.Played.{computed}
use Rattle.hub_examples.proofs.worked_conversations.worked_operators.Goals as goal

pub returns-clause-shown : goal.returns-clause-shown
unfolding computing
returns-clause-shown c hash same same_one secret =
    let comes = computed staffed_hub hash (zeros ∷ one ∷ (codes "secret" ++ zeros) ∷ []) (same, (same_one, (secret, tt))) bob_entered _ refl in
    (comes.legal, ap (λ f. (f.about 1).owed) comes.known, ap (λ f. (f.about 2).owed) comes.known)

pub returns-clause-kick : goal.returns-clause-kick
unfolding computing
returns-clause-kick c hash same same_one secret =
    let comes = computed staffed_hub hash (zeros ∷ one ∷ (codes "secret" ++ zeros) ∷ []) (same, (same_one, (secret, tt))) kick_taken _ refl in
    (comes.legal, ap (λ f. (f.about 1).owed) comes.known, ap (λ f. (f.about 2).owed) comes.known, ap (λ f. (f.about 2).stage) comes.known, ap (λ f. f.present) comes.known)

pub returns-clause-again : goal.returns-clause-again
unfolding computing
returns-clause-again c hash same same_one secret =
    let comes = computed staffed_hub hash (zeros ∷ one ∷ (codes "secret" ++ zeros) ∷ []) (same, (same_one, (secret, tt))) again_entered _ refl in
    (comes.legal, ap (λ f. (f.about 1).owed) comes.known, ap (λ f. (f.about 2).owed) comes.known, ap (λ f. (f.about 3).owed) comes.known, ap (λ f. f.present) comes.known)

pub returns-clause-ban : goal.returns-clause-ban
unfolding computing
returns-clause-ban c hash same same_one secret =
    let comes = computed staffed_hub hash (zeros ∷ one ∷ (codes "secret" ++ zeros) ∷ []) (same, (same_one, (secret, tt))) late_entered _ refl in (
      comes.legal,
      ap (λ f. (f.about 1).owed) comes.known,
      ap (λ f. (f.about 2).owed) comes.known,
      ap (λ f. (f.about 3).owed) comes.known,
      ap (λ f. (f.about 4).owed) comes.known,
      ap (λ f. (f.about 3).stage) comes.known,
      ap (λ f. f.present) comes.known,
    )

pub returns-clause-commands : goal.returns-clause-commands
unfolding computing
returns-clause-commands c hash same same_one secret =
    let comes = computed staffed_hub hash (zeros ∷ one ∷ (codes "secret" ++ zeros) ∷ []) (same, (same_one, (secret, tt))) other_asked _ refl in
    (comes.legal, ap (λ f. (f.about 1).owed) comes.known, ap (λ f. (f.about 2).owed) comes.known, ap (λ f. (f.about 3).owed) comes.known, ap (λ f. f.topic) comes.known)
