use Rattle.std.proofs.Common.{ap, refl, [], ◌∷◌}
use Rattle.hub_examples.specs.Conversations.{one, plain, zeros}
use Rattle.hub_examples.specs.Departures.{ana_left, ana_lied}
use Rattle.hub_examples.specs.Messages.{dan_entered, messages_sent, searches_sent, updates_sent}
use Rattle.hub_examples.specs.Visitors.{three, two}
use Rattle.hub_examples.proofs.Opened.{computing}
use Rattle.hub_examples.proofs.Played.{computed}
use Rattle.hub_examples.proofs.worked_conversations.worked_messages.Goals as goal

pub returns-clause-targets : goal.returns-clause-targets
unfolding computing
returns-clause-targets c hash same same_one same_two =
    let comes = computed plain hash (zeros ∷ one ∷ two ∷ []) (same, (same_one, (same_two, tt))) messages_sent _ refl in
    (comes.legal, ap (λ f. (f.about 1).owed) comes.known, ap (λ f. (f.about 2).owed) comes.known, ap (λ f. (f.about 3).owed) comes.known)

pub returns-clause-searches : goal.returns-clause-searches
unfolding computing
returns-clause-searches c hash same same_one same_two =
    let comes = computed plain hash (zeros ∷ one ∷ two ∷ []) (same, (same_one, (same_two, tt))) searches_sent _ refl in
    (comes.legal, ap (λ f. (f.about 1).owed) comes.known, ap (λ f. (f.about 2).owed) comes.known, ap (λ f. (f.about 3).owed) comes.known)

pub returns-clause-updates : goal.returns-clause-updates
unfolding computing
returns-clause-updates c hash same same_one same_two =
    let comes = computed plain hash (zeros ∷ one ∷ two ∷ []) (same, (same_one, (same_two, tt))) updates_sent _ refl in
    (comes.legal, ap (λ f. (f.about 1).owed) comes.known, ap (λ f. (f.about 2).owed) comes.known, ap (λ f. (f.about 3).owed) comes.known)

pub returns-clause-newcomers : goal.returns-clause-newcomers
unfolding computing
returns-clause-newcomers c hash same same_one same_two same_three =
    let comes = computed plain hash (zeros ∷ one ∷ two ∷ three ∷ []) (same, (same_one, (same_two, (same_three, tt)))) dan_entered _ refl in
    (comes.legal, ap (λ f. (f.about 4).owed) comes.known)

pub returns-clause-departures : goal.returns-clause-departures
unfolding computing
returns-clause-departures c hash same same_one same_two =
    let lied = computed plain hash (zeros ∷ one ∷ two ∷ []) (same, (same_one, (same_two, tt))) ana_lied _ refl in
    let comes = computed plain hash (zeros ∷ one ∷ two ∷ []) (same, (same_one, (same_two, tt))) ana_left _ refl in (
      comes.legal,
      ap (λ f. (f.about 1).owed) comes.known,
      ap (λ f. (f.about 2).owed) comes.known,
      ap (λ f. (f.about 3).owed) comes.known,
      ap (λ f. (f.about 1).stage) lied.known,
      ap (λ f. f.present) lied.known,
      ap (λ f. f.opened) comes.known,
    )
