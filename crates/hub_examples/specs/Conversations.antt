-- Conversations with a plain hub, line by line, and what each of them comes to, byte for byte.
use Rattle.std.specs.Prelude.{◌≡◌, ℕ, List, [], ◌∷◌, ◌++◌, codes}
use Rattle.login_state.specs.declared.stage.Stage.TheVariants as stages
use Rattle.hub_rules.specs.declared.history.Call.TheVariants.{Join, Line}
use Rattle.hub_rules.specs.declared.history.Entry.{Entry}
use Rattle.hub_rules.specs.declared.history.Reply.TheVariants.{Joined, Said}
use Rattle.hub_rules.specs.declared.history.Verdict.TheVariants.{Ended, Kept}
use Rattle.hub_rules.specs.Configured.{Configured, plain_hub}
use Rattle.hub_rules.specs.History.{lines_owed, present, stage}
use Rattle.hub_rules.specs.Legal.{Legal}
use Rattle.hub_rules.specs.Texts.{with_line_feed}

-- a hub without accounts, menu and topic
abbrev pub plain : Configured
plain = plain_hub (codes "Hub")

-- 127.0.0.1
abbrev pub peer : List ℕ
peer = 127 ∷ 0 ∷ 0 ∷ 1 ∷ []

-- the challenge of each join, and what the identifier of 39 times A spells
abbrev pub zeros : List ℕ
zeros = 0 ∷ 0 ∷ 0 ∷ 0 ∷ 0 ∷ 0 ∷ 0 ∷ 0 ∷ 0 ∷ 0 ∷ 0 ∷ 0 ∷ 0 ∷ 0 ∷ 0 ∷ 0 ∷ 0 ∷ 0 ∷ 0 ∷ 0 ∷ 0 ∷ 0 ∷ 0 ∷ 0 ∷ []

-- ---- the first words

-- the first connection joins
abbrev pub one_joined : List Entry
one_joined = record { caller = 1; call = Join peer zeros 0; reply = Joined 1 } ∷ []

-- and says what it supports
abbrev pub sup_text : List ℕ
sup_text = codes "HSUP ADBASE ADTIGR"

abbrev pub one_asked : List Entry
one_asked = record { caller = 1; call = Line 1 sup_text 0; reply = Said Kept } ∷ one_joined

abbrev pub greeting_of : List ℕ → List (List ℕ)
greeting_of sid =
    with_line_feed (codes "ISUP ADBASE ADTIGR ADPING ADUCMD") ∷ with_line_feed (codes "ISID " ++ sid) ∷ with_line_feed (codes "IINF CT32 NIHub VEadc-hub\\s1.0") ∷ []

-- a client that says what it supports gets three lines
abbrev pub ThreeAnswers : Type 0
ThreeAnswers = (hash : List ℕ → List ℕ) → Legal plain hash one_asked × (lines_owed plain hash one_asked 1 ≡ greeting_of (codes "AAAB"))

-- ---- a fatal denial

abbrev pub lacking_text : List ℕ
lacking_text = codes "HSUP ADTIGR"

abbrev pub one_denied : List Entry
one_denied = record { caller = 1; call = Line 1 lacking_text 0; reply = Said Ended } ∷ one_joined

-- a client that does not support BASE is told so, and shut out
abbrev pub DeniedAndOut : Type 0
DeniedAndOut =
    (hash : List ℕ → List ℕ)
    → Legal plain hash one_denied
    × (lines_owed plain hash one_denied 1 ≡ with_line_feed (codes "ISTA 245 Feature\\smissing FCBASE") ∷ [])
    × (stage plain hash one_denied 1 ≡ stages.Gone)

-- ---- a login

abbrev pub nobodys_id : List ℕ
nobodys_id = codes "AAAAAAAAAAAAAAAAAAAAAAAAAAAAAAAAAAAAAAA"

abbrev pub ana_text : List ℕ
ana_text = codes "BINF AAAB IDAAAAAAAAAAAAAAAAAAAAAAAAAAAAAAAAAAAAAAA PDAAAAAAAAAAAAAAAAAAAAAAAAAAAAAAAAAAAAAAA NIana"

-- she logs in
abbrev pub ana_entered : List Entry
ana_entered = record { caller = 1; call = Line 1 ana_text 0; reply = Said Kept } ∷ one_asked

abbrev pub ana_told : List ℕ
ana_told = with_line_feed (codes "BINF AAAB IDAAAAAAAAAAAAAAAAAAAAAAAAAAAAAAAAAAAAAAA NIana")

-- a user that logs in hears of itself, and is present
abbrev pub LoginIsHeard : Type 0
LoginIsHeard =
    (hash : List ℕ → List ℕ) → hash zeros ≡ zeros
    → Legal plain hash ana_entered
    × (lines_owed plain hash ana_entered 1 ≡ greeting_of (codes "AAAB") ++ ana_told ∷ [])
    × (present plain hash ana_entered ≡ 1 ∷ [])

-- ---- a second user

abbrev pub bobs_id : List ℕ
bobs_id = codes "AAAAAAAAAAAAAAAAAAAAAAAAAAAAAAAAAAAAAAI"

abbrev pub one : List ℕ
one = 0 ∷ 0 ∷ 0 ∷ 0 ∷ 0 ∷ 0 ∷ 0 ∷ 0 ∷ 0 ∷ 0 ∷ 0 ∷ 0 ∷ 0 ∷ 0 ∷ 0 ∷ 0 ∷ 0 ∷ 0 ∷ 0 ∷ 0 ∷ 0 ∷ 0 ∷ 0 ∷ 1 ∷ []

abbrev pub two_joined : List Entry
two_joined = record { caller = 2; call = Join peer zeros 0; reply = Joined 2 } ∷ ana_entered

abbrev pub two_asked : List Entry
two_asked = record { caller = 2; call = Line 2 sup_text 0; reply = Said Kept } ∷ two_joined

abbrev pub bob_text : List ℕ
bob_text = codes "BINF AAAC IDAAAAAAAAAAAAAAAAAAAAAAAAAAAAAAAAAAAAAAI PDAAAAAAAAAAAAAAAAAAAAAAAAAAAAAAAAAAAAAAI NIbob"

abbrev pub bob_entered : List Entry
bob_entered = record { caller = 2; call = Line 2 bob_text 0; reply = Said Kept } ∷ two_asked

abbrev pub bob_told : List ℕ
bob_told = with_line_feed (codes "BINF AAAC IDAAAAAAAAAAAAAAAAAAAAAAAAAAAAAAAAAAAAAAI NIbob")

-- the second hears of the first and of itself, and the first of the second
abbrev pub BothAreHeard : Type 0
BothAreHeard =
    (hash : List ℕ → List ℕ) → hash zeros ≡ zeros → hash one ≡ one
    → Legal plain hash bob_entered
    × (lines_owed plain hash bob_entered 2 ≡ greeting_of (codes "AAAC") ++ ana_told ∷ bob_told ∷ [])
    × (lines_owed plain hash bob_entered 1 ≡ greeting_of (codes "AAAB") ++ ana_told ∷ bob_told ∷ [])

-- ---- chat

abbrev pub hi_text : List ℕ
hi_text = codes "BMSG AAAC hi"

abbrev pub said_hi : List Entry
said_hi = record { caller = 2; call = Line 2 hi_text 0; reply = Said Kept } ∷ bob_entered

-- both hear what the second says
abbrev pub ChatIsHeard : Type 0
ChatIsHeard =
    (hash : List ℕ → List ℕ) → hash zeros ≡ zeros → hash one ≡ one
    → Legal plain hash said_hi
    × (lines_owed plain hash said_hi 1 ≡ greeting_of (codes "AAAB") ++ ana_told ∷ bob_told ∷ with_line_feed (codes "BMSG AAAC hi") ∷ [])
    × (lines_owed plain hash said_hi 2 ≡ greeting_of (codes "AAAC") ++ ana_told ∷ bob_told ∷ with_line_feed (codes "BMSG AAAC hi") ∷ [])
