-- Which session identifiers are given, to the byte: after one that was given comes the next one, and its owner's leaving does not bring it back at once.
use Rattle.std.specs.Prelude.{◌≡◌, ℕ, zero, suc, ◌<◌, List, [], ◌∷◌, codes}
use Rattle.hub_rules.specs.declared.history.Call.TheVariants.{Join}
use Rattle.hub_rules.specs.declared.history.Entry.{Entry}
use Rattle.hub_rules.specs.declared.history.Reply.TheVariants.{Full}
use Rattle.hub_rules.specs.declared.history.Verdict.TheVariants.{Kept}
use Rattle.hub_rules.specs.Configured.{Configured, plain_for}
use Rattle.hub_rules.specs.History.{lines_owed, sid}
use Rattle.hub_rules.specs.Legal.{Legal}
use Rattle.hub_examples.specs.Conversations.{greeting_of, peer, plain, sup_text, zeros}
use Rattle.hub_examples.specs.Steps.{joins, quits, says}

-- ---- a hub for two

abbrev pub for_two : Configured
for_two = record plain { plain = plain_for 2 }

-- two connections are open, and a third caller is turned away
abbrev pub turned_away : List Entry
turned_away = record { caller = 3; call = Join peer zeros 0; reply = Full } ∷ joins 2 0 (joins 1 0 [])

-- the first leaves, and the third caller comes again
abbrev pub let_in : List Entry
let_in = says 3 sup_text 0 Kept (joins 3 0 (quits 1 turned_away))

-- there is room again, and the identifier is the next one, AAAD, though AAAB is free
abbrev pub NextIsGiven : Type 0
NextIsGiven = (hash : List ℕ → List ℕ) → Legal for_two hash let_in × (lines_owed for_two hash let_in 3 ≡ greeting_of (codes "AAAD"))

-- ---- round and round

-- so many connections join, one after another, each of which leaves before the next one
unfoldable pub come_and_go : ℕ → List Entry
come_and_go zero = []
come_and_go (suc n) = quits (suc n) (joins (suc n) 0 (come_and_go n))

-- as many as there are identifiers came and went, and one more comes
abbrev pub all_given : List Entry
all_given = says 1_048_576 sup_text 0 Kept (joins 1_048_576 0 (come_and_go 1_048_575))

-- each of them has the identifier of its number; then AAAB is given again, which the first one had
abbrev pub FirstIsGivenAgain : Type 0
FirstIsGivenAgain =
    (hash : List ℕ → List ℕ)
    → ((n : ℕ) → n < 1_048_575 → sid plain hash (joins (suc n) 0 (come_and_go n)) (suc n) ≡ suc n) × Legal plain hash all_given
    × (lines_owed plain hash all_given 1_048_576 ≡ greeting_of (codes "AAAB"))
