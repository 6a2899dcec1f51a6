use Rattle.std.proofs.Common.{◌++◌, ap, codes, refl, [], ◌∷◌}
use Rattle.hub_examples.specs.Conversations.{one, zeros}
use Rattle.hub_examples.specs.PasswordLogins.{op_entered, op_named, op_refused, rival_refused, staffed_hub}
use Rattle.hub_examples.proofs.Opened.{computing}
use Rattle.hub_examples.proofs.Played.{computed, sample}
use Rattle.hub_examples.proofs.worked_conversations.worked_passwords.Goals as goal

pub returns-clause-asked : goal.returns-clause-asked
unfolding computing
returns-clause-asked c hash same secret =
    let comes = computed staffed_hub hash (zeros ∷ (codes "secret" ++ zeros) ∷ []) (same, (secret, tt)) op_named _ refl in
    (comes.legal, ap (λ f. (f.about 1).owed) comes.known, ap (λ f. f.present) comes.known)

pub returns-clause-right : goal.returns-clause-right
unfolding computing
returns-clause-right c hash same secret =
    let comes = computed staffed_hub hash (zeros ∷ (codes "secret" ++ zeros) ∷ []) (same, (secret, tt)) op_entered _ refl in
    (comes.legal, ap (λ f. (f.about 1).owed) comes.known, ap (λ f. f.present) comes.known)

pub returns-clause-wrong : goal.returns-clause-wrong
unfolding computing
returns-clause-wrong c hash same secret =
    let comes = computed staffed_hub hash (zeros ∷ (codes "secret" ++ zeros) ∷ []) (same, (secret, tt)) op_refused _ refl in
    (comes.legal, ap (λ f. (f.about 1).owed) comes.known, ap (λ f. (f.about 1).stage) comes.known)

pub returns-clause-taken : goal.returns-clause-taken
unfolding computing
returns-clause-taken c hash same same_one secret =
    let comes = computed staffed_hub hash (zeros ∷ one ∷ (codes "secret" ++ zeros) ∷ []) (same, (same_one, (secret, tt))) rival_refused _ refl in
    (comes.legal, ap (λ f. (f.about 1).owed) comes.known, ap (λ f. (f.about 2).owed) comes.known, ap (λ f. f.present) comes.known, ap (λ f. (f.about 2).stage) comes.known)

pub returns-clause-hash : goal.returns-clause-hash
returns-clause-hash c = (sample, refl, refl, refl, refl, refl)
