-- Users leave, or are made to, to the byte.
use Rattle.std.specs.Prelude.{◌≡◌, ℕ, List, [], ◌∷◌, ◌++◌, codes}
use Rattle.login_state.specs.declared.stage.Stage.TheVariants as stages
use Rattle.hub_rules.specs.declared.history.Entry.{Entry}
use Rattle.hub_rules.specs.declared.history.Verdict.TheVariants.{Ended}
use Rattle.hub_rules.specs.History.{open_connections, lines_owed, present, stage}
use Rattle.hub_rules.specs.Legal.{Legal}
use Rattle.hub_rules.specs.Texts.{with_line_feed}
use Rattle.hub_examples.specs.Conversations.{one, plain, zeros}
use Rattle.hub_examples.specs.Messages.{cy_entered, three_told}
use Rattle.hub_examples.specs.Steps.{quits, says}
use Rattle.hub_examples.specs.Visitors.{two}

-- of three users cy leaves; ana speaks in bob's name; and then the connection of ana leaves, too
abbrev pub cy_left : List Entry
cy_left = quits 3 cy_entered

abbrev pub ana_lied : List Entry
ana_lied = says 1 (codes "BMSG AAAC hi") 0 Ended cy_left

abbrev pub ana_left : List Entry
ana_left = quits 1 ana_lied

abbrev pub cy_gone : List ℕ
cy_gone = with_line_feed (codes "IQUI AAAD")

abbrev pub ana_gone : List ℕ
ana_gone = with_line_feed (codes "IQUI AAAB")

-- those who are present hear of each who leaves, once; who speaks in another's name is told so, shut out, and not heard
abbrev pub DeparturesArePlayed : Type 0
DeparturesArePlayed =
    (hash : List ℕ → List ℕ) → hash zeros ≡ zeros → hash one ≡ one → hash two ≡ two
    → Legal plain hash ana_left
    × (lines_owed plain hash ana_left 1 ≡ three_told (codes "AAAB") ++ cy_gone ∷ with_line_feed (codes "ISTA 240 Wrong\\sSID") ∷ [])
    × (lines_owed plain hash ana_left 2 ≡ three_told (codes "AAAC") ++ cy_gone ∷ ana_gone ∷ [])
    × (lines_owed plain hash ana_left 3 ≡ three_told (codes "AAAD"))
    × (stage plain hash ana_lied 1 ≡ stages.Gone)
    × (present plain hash ana_lied ≡ 2 ∷ [])
    × (open_connections plain hash ana_left ≡ 2 ∷ [])
