-- Calls in turn: the answers so far, and those that are still to come.
use Rattle.std.proofs.Common.{◌≡◌, refl, Bool, true, false, ℕ, suc, ◌+◌, ◌≤◌, List, [], ◌∷◌, ◌++◌, length, sym, ap, ◌∙◌, subst, append_assoc, append-nil, arith, inl, inr}
use Rattle.std.specs.Prelude.{◌⊎◌}
use Rattle.std.proofs.lemmas.Bool.{false≢true}
use Rattle.std.proofs.lemmas.List.{length-append}
use Rattle.hub_core.specs.CoreState.{CoreState}
use Rattle.hub_core.specs.Moves.{StandsAt}
use Rattle.hub_core.specs.Runs.{Answers, MayAsk, RunsTo, call_of, is_skipped, with_answer}
use Rattle.hub_core.specs.State.{IsSeated}
use Rattle.hub_core.specs.declared.calls.Answer.TheVariants as answers
use Rattle.hub_core.specs.declared.calls.Ask.{Ask}
use Rattle.hub_core.proofs.NextHistory.{open-has-seat}
use Rattle.hub_rules.specs.Facts.{Facts, facts}
use Rattle.hub_rules.specs.Legal.{MayCall, is_open}
use Rattle.hub_core.specs.declared.calls.Answer.{Answer}
use Rattle.hub_core.specs.declared.calls.Asked.{Asked}
use Rattle.hub_rules.specs.declared.history.Entry.{Entry}
use Rattle.hub_rules.specs.Configured.{Configured}

-- whatever runs the rest from where the hub stands, with the answers so far before it, runs all
abbrev pub AreUnderWay : Configured → (List ℕ → List ℕ) → List Asked → List Answer → CoreState → List Asked → Type 0
AreUnderWay setup hash all done core rest =
    (after : CoreState) (more : List Answer) → ((h : List Entry) → StandsAt setup hash h core → RunsTo setup hash h rest more after)
    → RunsTo setup hash [] all (done ++ more) after

pub run-begin : (setup : Configured) (hash : List ℕ → List ℕ) (all : List Asked) (core : CoreState) → StandsAt setup hash [] core → AreUnderWay setup hash all [] core all
run-begin setup hash all core at = λ after more rest. rest [] at

-- a skipped call does not stand in the history
skipped-same : (caller : ℕ) (ask : Ask) (answer : Answer) (h : List Entry) → is_skipped answer ≡ true → h ≡ with_answer caller ask answer h
skipped-same caller ask (answers.Joined connection) h is = absurd (false≢true is)
skipped-same caller ask answers.Full h is = absurd (false≢true is)
skipped-same caller ask answers.JoinsSpent h is = absurd (false≢true is)
skipped-same caller ask (answers.Said verdict) h is = absurd (false≢true is)
skipped-same caller ask answers.Left h is = absurd (false≢true is)
skipped-same caller ask (answers.Took bytes taken) h is = absurd (false≢true is)
skipped-same caller ask answers.Memory h is = absurd (false≢true is)
skipped-same caller ask answers.Skipped h is = refl

-- the hub stands at the history with the call, if it was made, and without it, if it was skipped
stands-after : (setup : Configured) (hash : List ℕ → List ℕ) (h : List Entry) (core next : CoreState) (asked : Asked) (answer : Answer)
    → Answers asked.caller asked.ask answer core next → (is_skipped answer ≡ true → next ≡ core) → StandsAt setup hash h core
    → MayAsk setup hash h asked.caller asked.ask ⊎ (is_skipped answer ≡ true) → StandsAt setup hash (with_answer asked.caller asked.ask answer h) next
stands-after setup hash h core next asked answer answered kept at (inl may) = (answered setup hash h at may).1
stands-after setup hash h core next asked answer answered kept at (inr is) =
    subst (λ (entries : List Entry). StandsAt setup hash entries next) (skipped-same asked.caller asked.ask answer h is)
    (subst (StandsAt setup hash h) (sym (kept is)) at)

pub run-step : (setup : Configured) (hash : List ℕ → List ℕ) (all rest : List Asked) (done : List Answer) (core next : CoreState) (asked : Asked) (answer : Answer)
    → AreUnderWay setup hash all done core (asked ∷ rest) → Answers asked.caller asked.ask answer core next → (is_skipped answer ≡ true → next ≡ core)
    → AreUnderWay setup hash all (done ++ answer ∷ []) next rest
unfolding RunsTo
run-step setup hash all rest done core next asked answer way answered kept = λ after more go.
    subst (λ answers. RunsTo setup hash [] all answers after) (sym (append_assoc done (answer ∷ []) more))
    (way after (answer ∷ more) (λ h at. (
      (λ may. (answered setup hash h at may).0),
      (λ either. go (with_answer asked.caller asked.ask answer h) (stands-after setup hash h core next asked answer answered kept at either)),
    )))

pub run-end : (setup : Configured) (hash : List ℕ → List ℕ) (all : List Asked) (done : List Answer) (core : CoreState) → AreUnderWay setup hash all done core []
    → RunsTo setup hash [] all done core
unfolding RunsTo
run-end setup hash all done core way = subst (λ answers. RunsTo setup hash [] all answers core) (append-nil done) (way core [] (λ h at. at))

room-kept : (a d r c c' : ℕ) → a ≡ d + 1 → d + suc r ≤ c → c ≤ c' → a + r ≤ c'
room-kept a d r c c' e fits grows = omega arith

-- there is room for the answers that are still to come
pub room-left : (done after : List Answer) (answer : Answer) (rest : List Asked) (asked : Asked) (all : List Asked) (room room' : ℕ) → after ≡ done ++ answer ∷ []
    → all ≡ asked ∷ rest → length done + length all ≤ room → room ≤ room' → length after + length rest ≤ room'
room-left done after answer rest asked all room room' is first fits grows =
    room-kept (length after) (length done) (length rest) room room' (ap length is ∙ length-append done (answer ∷ [])) (subst (λ (cs : List Asked). length done + length cs ≤ room) first fits) grows

no-more : (n : ℕ) → suc n ≡ 0 → ⊥
no-more n e = omega arith

pub none-left : (rest : List Asked) → length rest ≡ 0 → rest ≡ []
none-left [] e = refl
none-left (asked ∷ rest) e = absurd (no-more (length rest) e)

-- a call that may be made names a connection that has a seat
pub not-skipped : (core : CoreState) (connection caller : ℕ) (ask : Ask) (seated_there : Bool) → seated_there ≡ false → (IsSeated connection core → seated_there ≡ true)
    → ((f : Facts) → MayCall f caller (call_of ask) → is_open connection f ≡ true) → Answers caller ask answers.Skipped core core
not-skipped core connection caller ask seated_there none has_one names setup hash h at may =
    absurd (false≢true (sym none ∙ has_one (open-has-seat setup hash h core connection at (names (facts setup hash h) may.0))))
