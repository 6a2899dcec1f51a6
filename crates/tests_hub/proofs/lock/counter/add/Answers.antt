use Rattle.std.proofs.Common.{◌≡◌, ℕ, ◌+◌, List, [], ◌∷◌, arith, subst, ⊎_elim}
use Rattle.one_history.specs.Histories.{Begins, total}
use Rattle.tests_hub.specs.declared.lock.counter.Line.{Line}
use Rattle.one_history.proofs.Starts.{begins_last}
use Rattle.tests_hub.proofs.lock.counter.add.Goals as goal

abbrev IsRight : ℕ → List Line → Type 0
IsRight start [] = Unit {0}
IsRight start (e ∷ s) = e.reply ≡ start + total (λ (d : Line). d.amount) (e ∷ s)

-- the replies are right where they were, and the new one is
right_again : (start : ℕ) (d : Line) (h : List Line) → IsRight start (d ∷ h) → ((e : Line) (s : List Line) → Begins h (e ∷ s) → IsRight start (e ∷ s))
    → (e : Line) (s : List Line) → Begins (d ∷ h) (e ∷ s) → IsRight start (e ∷ s)
right_again start d h new old e s b = ⊎_elim (λ is. subst (IsRight start) is new) (λ before. old e s before) (begins_last d e h s b)

pub enter-requires-clause-legal : goal.enter-requires-clause-legal
enter-requires-clause-legal g c =
    let taken = c.acquire-counter.ensures in
    right_again c.args.lock.now.about record { caller = c.args.caller; amount = c.args.amount; reply = c.in-Some.reply } c.acquire-counter.new.seat.seen (omega (arith, c.in-Some.ensures.1, taken.stands)) taken.legal
