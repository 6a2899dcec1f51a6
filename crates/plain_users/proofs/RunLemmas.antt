-- Commands that are made in turn: the answers so far, and those that are still to come.
use Rattle.std.proofs.Common.{◌≡◌, ℕ, suc, ◌+◌, ◌≤◌, List, [], ◌∷◌, ◌++◌, length, refl, sym, ap, ◌∙◌, subst, append_assoc, append-nil, arith}
use Rattle.std.proofs.lemmas.List.{length-append}
use Rattle.plain_users.specs.Commands.{HaveRun, AnswersCommand}
use Rattle.user_table.specs.Listed.{Listed}
use Rattle.plain_users.specs.declared.command.CommandAnswer.{CommandAnswer}
use Rattle.plain_users.specs.declared.command.Command.{Command}

-- whatever answers the rest, with the answers so far before it, answers all
abbrev pub AreUnderWay : List Listed → List Command → List CommandAnswer → List Listed → List Command → Type 0
AreUnderWay before all done now rest = (after : List Listed) (more : List CommandAnswer) → HaveRun now rest more after → HaveRun before all (done ++ more) after

pub run-begin : (before : List Listed) (all : List Command) → AreUnderWay before all [] before all
run-begin before all = λ after more h. h

pub run-step : (before now next : List Listed) (all rest : List Command) (done : List CommandAnswer) (command : Command) (answer : CommandAnswer)
    → AreUnderWay before all done now (command ∷ rest) → AnswersCommand now command answer next → AreUnderWay before all (done ++ answer ∷ []) next rest
unfolding HaveRun
run-step before now next all rest done command answer way answered = λ after more h.
    subst (λ answers. HaveRun before all answers after) (sym (append_assoc done (answer ∷ []) more)) (way after (answer ∷ more) (next, answered, h))

pub run-end : (before now : List Listed) (all : List Command) (done : List CommandAnswer) → AreUnderWay before all done now [] → HaveRun before all done now
unfolding HaveRun
run-end before now all done way = subst (λ answers. HaveRun before all answers now) (append-nil done) (way now [] refl)

room-kept : (a d r c c' : ℕ) → a ≡ d + 1 → d + suc r ≤ c → c ≤ c' → a + r ≤ c'
room-kept a d r c c' e fits grows = omega arith

-- there is room for the answers that are still to come
pub room-left : (done after : List CommandAnswer) (answer : CommandAnswer) (rest : List Command) (command : Command) (all : List Command) (room room' : ℕ) → after ≡ done ++ answer ∷ []
    → all ≡ command ∷ rest → length done + length all ≤ room → room ≤ room' → length after + length rest ≤ room'
room-left done after answer rest command all room room' is first fits grows =
    room-kept (length after) (length done) (length rest) room room' (ap length is ∙ length-append done (answer ∷ [])) (subst (λ (cs : List Command). length done + length cs ≤ room) first fits) grows

no-more : (n : ℕ) → suc n ≡ 0 → ⊥
no-more n e = omega arith

pub none-left : (rest : List Command) → length rest ≡ 0 → rest ≡ []
none-left [] e = refl
none-left (command ∷ rest) e = absurd (no-more (length rest) e)
