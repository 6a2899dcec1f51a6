-- Three users talk: who hears what, to the byte.
use Rattle.std.specs.Prelude.{◌≡◌, ℕ, List, [], ◌∷◌, ◌++◌, codes}
use Rattle.hub_rules.specs.declared.history.Entry.{Entry}
use Rattle.hub_rules.specs.declared.history.Verdict.TheVariants.{Kept}
use Rattle.hub_rules.specs.History.{lines_owed}
use Rattle.hub_rules.specs.Legal.{Legal}
use Rattle.hub_rules.specs.Texts.{with_line_feed}
use Rattle.hub_examples.specs.Conversations.{greeting_of, one, plain, sup_text, zeros}
use Rattle.hub_examples.specs.Steps.{joins, says}
use Rattle.hub_examples.specs.Visitors.{ana_text, ana_told, bob_text, bob_told, cy_text, cy_told, dan_text, dan_told, three, two}

abbrev pub ana_asked : List Entry
ana_asked = says 1 sup_text 0 Kept (joins 1 0 [])

abbrev pub ana_entered : List Entry
ana_entered = says 1 ana_text 0 Kept ana_asked

abbrev pub bob_asked : List Entry
bob_asked = says 2 sup_text 0 Kept (joins 2 0 ana_entered)

abbrev pub bob_entered : List Entry
bob_entered = says 2 bob_text 0 Kept bob_asked

abbrev pub cy_asked : List Entry
cy_asked = says 3 sup_text 0 Kept (joins 3 0 bob_entered)

abbrev pub cy_entered : List Entry
cy_entered = says 3 cy_text 0 Kept cy_asked

-- what each of the three was owed until all were present, by its session identifier: whoever came first hears of the others as they come
abbrev pub three_told : List ℕ → List (List ℕ)
three_told sid = greeting_of sid ++ ana_told ∷ bob_told ∷ cy_told ∷ []

-- ---- messages to one user

abbrev pub ana_says : List ℕ → List Entry → List Entry
ana_says text h = says 1 text 0 Kept h

-- ana sends a direct message to bob, to itself, and to a session identifier that nobody has; and then an echoed message to each of them
abbrev pub messages_sent : List Entry
messages_sent =
    ana_says (codes "EMSG AAAB 7777 away")
    (ana_says (codes "EMSG AAAB AAAB me")
    (ana_says (codes "EMSG AAAB AAAC yo")
    (ana_says (codes "DMSG AAAB 7777 gone")
    (ana_says (codes "DMSG AAAB AAAB note")
    (ana_says (codes "DMSG AAAB AAAC hi") cy_entered)))))

-- a direct message is for its target alone; an echoed one is for its sender too, once; a target that is not there has nobody hear either
abbrev pub MessagesAreForTheirTargets : Type 0
MessagesAreForTheirTargets =
    (hash : List ℕ → List ℕ) → hash zeros ≡ zeros → hash one ≡ one → hash two ≡ two
    → Legal plain hash messages_sent
    × (lines_owed plain hash messages_sent 1 ≡ three_told (codes "AAAB") ++ with_line_feed (codes "DMSG AAAB AAAB note") ∷ with_line_feed (codes "EMSG AAAB AAAC yo")
    ∷ with_line_feed (codes "EMSG AAAB AAAB me") ∷ [])
    × (lines_owed plain hash messages_sent 2 ≡ three_told (codes "AAAC") ++ with_line_feed (codes "DMSG AAAB AAAC hi") ∷ with_line_feed (codes "EMSG AAAB AAAC yo") ∷ [])
    × (lines_owed plain hash messages_sent 3 ≡ three_told (codes "AAAD"))

-- ---- searches by features: ana has TCP4 and SEGA, bob has TCP4, and cy says nothing of features

abbrev pub searches_sent : List Entry
searches_sent =
    ana_says (codes "FSCH AAAB -TCP4 ANx TO4")
    (ana_says (codes "FSCH AAAB +TCP4+SEGA ANx TO3")
    (ana_says (codes "FSCH AAAB +TCP4 ANx TO2")
    (ana_says (codes "FSCH AAAB +TCP4-SEGA ANx TO1") cy_entered)))

-- a search is for those who have each wanted feature and none of the unwanted, the sender among them
abbrev pub SearchesAreByFeatures : Type 0
SearchesAreByFeatures =
    (hash : List ℕ → List ℕ) → hash zeros ≡ zeros → hash one ≡ one → hash two ≡ two
    → Legal plain hash searches_sent
    × (lines_owed plain hash searches_sent 1 ≡ three_told (codes "AAAB") ++ with_line_feed (codes "FSCH AAAB +TCP4 ANx TO2")
    ∷ with_line_feed (codes "FSCH AAAB +TCP4+SEGA ANx TO3") ∷ [])
    × (lines_owed plain hash searches_sent 2 ≡ three_told (codes "AAAC") ++ with_line_feed (codes "FSCH AAAB +TCP4-SEGA ANx TO1")
    ∷ with_line_feed (codes "FSCH AAAB +TCP4 ANx TO2") ∷ [])
    × (lines_owed plain hash searches_sent 3 ≡ three_told (codes "AAAD") ++ with_line_feed (codes "FSCH AAAB -TCP4 ANx TO4") ∷ [])

-- ---- updates: bob empties its field SU, and cy fills its own

abbrev pub updates_sent : List Entry
updates_sent =
    ana_says (codes "FSCH AAAB +TCP4 ANx TO6")
    (says 3 (codes "BINF AAAD SUTCP4") 0 Kept
    (ana_says (codes "FSCH AAAB +TCP4 ANx TO5")
    (says 2 (codes "BINF AAAC SU") 0 Kept cy_entered)))

-- all hear of an update as it was sent, and from then on a search goes by what it says
abbrev pub UpdatesChangeWhoHears : Type 0
UpdatesChangeWhoHears =
    (hash : List ℕ → List ℕ) → hash zeros ≡ zeros → hash one ≡ one → hash two ≡ two
    → Legal plain hash updates_sent
    × (lines_owed plain hash updates_sent 1 ≡ three_told (codes "AAAB") ++ with_line_feed (codes "BINF AAAC SU") ∷ with_line_feed (codes "FSCH AAAB +TCP4 ANx TO5")
    ∷ with_line_feed (codes "BINF AAAD SUTCP4") ∷ with_line_feed (codes "FSCH AAAB +TCP4 ANx TO6") ∷ [])
    × (lines_owed plain hash updates_sent 2 ≡ three_told (codes "AAAC") ++ with_line_feed (codes "BINF AAAC SU") ∷ with_line_feed (codes "BINF AAAD SUTCP4") ∷ [])
    × (lines_owed plain hash updates_sent 3 ≡ three_told (codes "AAAD") ++ with_line_feed (codes "BINF AAAC SU") ∷ with_line_feed (codes "BINF AAAD SUTCP4")
    ∷ with_line_feed (codes "FSCH AAAB +TCP4 ANx TO6") ∷ [])

abbrev pub dan_asked : List Entry
dan_asked = says 4 sup_text 0 Kept (joins 4 0 updates_sent)

abbrev pub dan_entered : List Entry
dan_entered = says 4 dan_text 0 Kept dan_asked

-- whoever comes later is told of each as it is now
abbrev pub NewcomersHearOfUpdates : Type 0
NewcomersHearOfUpdates =
    (hash : List ℕ → List ℕ) → hash zeros ≡ zeros → hash one ≡ one → hash two ≡ two → hash three ≡ three
    → Legal plain hash dan_entered
    × (lines_owed plain hash dan_entered 4 ≡ greeting_of (codes "AAAE") ++ ana_told
    ∷ with_line_feed (codes "BINF AAAC IDAAAAAAAAAAAAAAAAAAAAAAAAAAAAAAAAAAAAAAI NIbob SS5 SF1")
    ∷ with_line_feed (codes "BINF AAAD IDAAAAAAAAAAAAAAAAAAAAAAAAAAAAAAAAAAAAAAQ NIcy SUTCP4") ∷ dan_told ∷ [])
