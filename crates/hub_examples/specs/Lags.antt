-- A user does not take what waits for it, to the byte.
use Rattle.std.specs.Prelude.{◌≡◌, ℕ, zero, suc, true, false, List, [], ◌∷◌, ◌++◌, codes, replicate}
use Rattle.hub_rules.specs.declared.history.Entry.{Entry}
use Rattle.hub_rules.specs.declared.history.Verdict.TheVariants.{Kept}
use Rattle.hub_rules.specs.History.{lags, lines_owed}
use Rattle.hub_rules.specs.Legal.{Legal}
use Rattle.hub_rules.specs.Texts.{with_line_feed}
use Rattle.hub_examples.specs.Conversations.{greeting_of, one, plain, zeros}
use Rattle.hub_examples.specs.Messages.{bob_entered}
use Rattle.hub_examples.specs.Steps.{says, takes}
use Rattle.hub_examples.specs.Visitors.{ana_told, bob_told}

-- what was owed to the first and to the second of them until both were present: five lines
abbrev pub two_told : List ℕ → List (List ℕ)
two_told sid = greeting_of sid ++ ana_told ∷ bob_told ∷ []

-- bob takes what waits for it; ana takes nothing
abbrev pub bob_ready : List Entry
bob_ready = takes 2 256 (two_told (codes "AAAC")) false bob_entered

abbrev pub ho_text : List ℕ
ho_text = codes "BMSG AAAC ho"

abbrev pub ho_told : List ℕ
ho_told = with_line_feed ho_text

-- so many times bob speaks, and takes what it hears of it
unfoldable pub chatter : ℕ → List Entry
chatter zero = bob_ready
chatter (suc n) = takes 2 1 (ho_told ∷ []) false (says 2 ho_text 0 Kept (chatter n))

-- after 1,019 times 1,024 lines wait for ana; bob speaks once more
abbrev pub once_more : List Entry
once_more = says 2 ho_text 0 Kept (chatter 1_019)

-- and ana takes what waits for it, which is all that will come
abbrev pub ana_took : List Entry
ana_took = takes 1 1_024 (two_told (codes "AAAB") ++ replicate 1_019 ho_told) true once_more

-- the line that does not fit makes ana lag and is not owed to it, and bob hears it
abbrev pub WhoTakesNothingLags : Type 0
WhoTakesNothingLags =
    (hash : List ℕ → List ℕ) → hash zeros ≡ zeros → hash one ≡ one
    → Legal plain hash ana_took
    × (lags plain hash (chatter 1_019) 1 ≡ false)
    × (lags plain hash once_more 1 ≡ true)
    × (lags plain hash once_more 2 ≡ false)
    × (lines_owed plain hash once_more 1 ≡ two_told (codes "AAAB") ++ replicate 1_019 ho_told)
    × (lines_owed plain hash once_more 2 ≡ two_told (codes "AAAC") ++ replicate 1_020 ho_told)
