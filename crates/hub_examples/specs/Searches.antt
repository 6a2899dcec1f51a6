-- The interval between a user's searches, to the byte.
use Rattle.std.specs.Prelude.{◌≡◌, ℕ, List, [], ◌∷◌, ◌++◌, codes}
use Rattle.hub_rules.specs.declared.history.Entry.{Entry}
use Rattle.hub_rules.specs.declared.history.Verdict.TheVariants.{Kept}
use Rattle.hub_rules.specs.Configured.{Configured}
use Rattle.hub_rules.specs.History.{lines_owed}
use Rattle.hub_rules.specs.Legal.{Legal}
use Rattle.hub_rules.specs.Texts.{with_line_feed}
use Rattle.hub_examples.specs.Conversations.{greeting_of, plain, sup_text, zeros}
use Rattle.hub_examples.specs.Steps.{joins, says}
use Rattle.hub_examples.specs.Visitors.{ana_text, ana_told}

-- a hub where 10 seconds must be between two searches
abbrev pub patient : Configured
patient = record plain { plain = record plain.plain { search_interval = 10 } }

abbrev pub patient_asked : List Entry
patient_asked = says 1 sup_text 0 Kept (joins 1 0 [])

abbrev pub patient_entered : List Entry
patient_entered = says 1 ana_text 0 Kept patient_asked

-- ana searches at 5, at 14 and at 15
abbrev pub search_text : List ℕ
search_text = codes "BSCH AAAB ANx TO1"

abbrev pub first_search : List Entry
first_search = says 1 search_text 5 Kept patient_entered

abbrev pub early_search : List Entry
early_search = says 1 search_text 14 Kept first_search

abbrev pub late_search : List Entry
late_search = says 1 search_text 15 Kept early_search

-- a search that is too soon does not go out, and does not count for the next one
abbrev pub SearchesMustWait : Type 0
SearchesMustWait =
    (hash : List ℕ → List ℕ) → hash zeros ≡ zeros
    → Legal patient hash late_search
    × (lines_owed patient hash late_search 1 ≡ greeting_of (codes "AAAB") ++ ana_told ∷ with_line_feed search_text
    ∷ with_line_feed (codes "ISTA 100 Search\\stoo\\ssoon") ∷ with_line_feed search_text ∷ [])
