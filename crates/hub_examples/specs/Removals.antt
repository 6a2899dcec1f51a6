-- An operator shuts a user out, to the byte: for now, or for a time.
use Rattle.std.specs.Prelude.{◌≡◌, ℕ, true, List, [], ◌∷◌, ◌++◌, codes}
use Rattle.login_state.specs.declared.stage.Stage.TheVariants as stages
use Rattle.hub_rules.specs.declared.history.Entry.{Entry}
use Rattle.hub_rules.specs.declared.history.Verdict.TheVariants.{Ended, Kept}
use Rattle.hub_rules.specs.History.{lines_owed, present, stage}
use Rattle.hub_rules.specs.Legal.{Legal}
use Rattle.hub_rules.specs.Texts.{with_line_feed}
use Rattle.hub_examples.specs.Conversations.{greeting_of, one, sup_text, zeros}
use Rattle.hub_examples.specs.PasswordLogins.{challenge_told, menu_told, op_entered, op_told, secret_digest, staffed_hub}
use Rattle.hub_examples.specs.Steps.{joins, says, takes}
use Rattle.hub_examples.specs.Visitors.{bob_text, bob_told}

-- what the hub's operator was owed when it entered
abbrev pub op_before : List (List ℕ)
op_before = greeting_of (codes "AAAB") ++ challenge_told ∷ op_told ∷ menu_told ∷ []

-- ---- bob enters

abbrev pub bob_joined : List Entry
bob_joined = joins 2 0 op_entered

abbrev pub bob_asked : List Entry
bob_asked = says 2 sup_text 0 Kept bob_joined

abbrev pub bob_entered : List Entry
bob_entered = says 2 bob_text 0 Kept bob_asked

abbrev pub bob_before : List (List ℕ)
bob_before = greeting_of (codes "AAAC") ++ op_told ∷ bob_told ∷ []

-- an operator is shown as one to those who enter, and the menu only to whoever asked for it
abbrev pub OperatorIsShown : Type 0
OperatorIsShown =
    (hash : List ℕ → List ℕ) → hash zeros ≡ zeros → hash one ≡ one → hash (codes "secret" ++ zeros) ≡ secret_digest
    → Legal staffed_hub hash bob_entered
    × (lines_owed staffed_hub hash bob_entered 1 ≡ op_before ++ bob_told ∷ [])
    × (lines_owed staffed_hub hash bob_entered 2 ≡ bob_before)

-- ---- a kick

abbrev pub history_of_kick : List Entry
history_of_kick = says 1 (codes "HMSG !kick\\sbob\\srude") 0 Kept bob_entered

abbrev pub kick_told : List ℕ
kick_told = with_line_feed (codes "IQUI AAAC IDAAAB MSrude")

abbrev pub done_told : List ℕ
done_told = with_line_feed (codes "ISTA 000 Done")

-- what bob says then is not heard, and it takes what it is owed, which is all that will come
abbrev pub kick_unheard : List Entry
kick_unheard = says 2 (codes "BMSG AAAC hi") 0 Ended history_of_kick

abbrev pub kick_taken : List Entry
kick_taken = takes 2 256 (bob_before ++ kick_told ∷ []) true kick_unheard

-- both hear of the kick and of its reason, and the operator that it is done; bob is shut out
abbrev pub KickShutsOut : Type 0
KickShutsOut =
    (hash : List ℕ → List ℕ) → hash zeros ≡ zeros → hash one ≡ one → hash (codes "secret" ++ zeros) ≡ secret_digest
    → Legal staffed_hub hash kick_taken
    × (lines_owed staffed_hub hash kick_taken 1 ≡ op_before ++ bob_told ∷ kick_told ∷ done_told ∷ [])
    × (lines_owed staffed_hub hash kick_taken 2 ≡ bob_before ++ kick_told ∷ [])
    × (stage staffed_hub hash kick_taken 2 ≡ stages.Gone)
    × (present staffed_hub hash kick_taken ≡ 1 ∷ [])

-- ---- the nick is free at once

abbrev pub again_asked : List Entry
again_asked = says 3 sup_text 0 Kept (joins 3 0 history_of_kick)

abbrev pub again_text : List ℕ
again_text = codes "BINF AAAD IDAAAAAAAAAAAAAAAAAAAAAAAAAAAAAAAAAAAAAAI PDAAAAAAAAAAAAAAAAAAAAAAAAAAAAAAAAAAAAAAI NIbob SS5 SF1 SUTCP4"

abbrev pub again_entered : List Entry
again_entered = says 3 again_text 0 Kept again_asked

abbrev pub again_told : List ℕ
again_told = with_line_feed (codes "BINF AAAD IDAAAAAAAAAAAAAAAAAAAAAAAAAAAAAAAAAAAAAAI NIbob SS5 SF1 SUTCP4")

-- whoever was kicked may come again, with its nick and its identifier, while its old connection is still open and hears nothing of it
abbrev pub NickIsFreeAfterKick : Type 0
NickIsFreeAfterKick =
    (hash : List ℕ → List ℕ) → hash zeros ≡ zeros → hash one ≡ one → hash (codes "secret" ++ zeros) ≡ secret_digest
    → Legal staffed_hub hash again_entered
    × (lines_owed staffed_hub hash again_entered 1 ≡ op_before ++ bob_told ∷ kick_told ∷ done_told ∷ again_told ∷ [])
    × (lines_owed staffed_hub hash again_entered 2 ≡ bob_before ++ kick_told ∷ [])
    × (lines_owed staffed_hub hash again_entered 3 ≡ greeting_of (codes "AAAD") ++ op_told ∷ again_told ∷ [])
    × (present staffed_hub hash again_entered ≡ 1 ∷ 3 ∷ [])

-- ---- a ban of 60 seconds, from moment 100 on

abbrev pub history_of_ban : List Entry
history_of_ban = says 1 (codes "HMSG !ban\\sbob\\s60") 100 Kept bob_entered

abbrev pub ban_told : List ℕ
ban_told = with_line_feed (codes "IQUI AAAC IDAAAB TL60")

-- at 159 it comes again
abbrev pub early_asked : List Entry
early_asked = says 3 sup_text 159 Kept (joins 3 159 history_of_ban)

abbrev pub early_refused : List Entry
early_refused = says 3 again_text 159 Ended early_asked

abbrev pub early_told : List ℕ
early_told = with_line_feed (codes "ISTA 232 Banned TL1")

-- and at 160
abbrev pub late_asked : List Entry
late_asked = says 4 sup_text 160 Kept (joins 4 160 early_refused)

abbrev pub late_text : List ℕ
late_text = codes "BINF AAAE IDAAAAAAAAAAAAAAAAAAAAAAAAAAAAAAAAAAAAAAI PDAAAAAAAAAAAAAAAAAAAAAAAAAAAAAAAAAAAAAAI NIbob SS5 SF1 SUTCP4"

abbrev pub late_entered : List Entry
late_entered = says 4 late_text 160 Kept late_asked

abbrev pub late_told : List ℕ
late_told = with_line_feed (codes "BINF AAAE IDAAAAAAAAAAAAAAAAAAAAAAAAAAAAAAAAAAAAAAI NIbob SS5 SF1 SUTCP4")

-- a ban shuts out whoever comes with that identifier, tells for how long, and ends by itself
abbrev pub BanEndsByItself : Type 0
BanEndsByItself =
    (hash : List ℕ → List ℕ) → hash zeros ≡ zeros → hash one ≡ one → hash (codes "secret" ++ zeros) ≡ secret_digest
    → Legal staffed_hub hash late_entered
    × (lines_owed staffed_hub hash late_entered 1 ≡ op_before ++ bob_told ∷ ban_told ∷ done_told ∷ late_told ∷ [])
    × (lines_owed staffed_hub hash late_entered 2 ≡ bob_before ++ ban_told ∷ [])
    × (lines_owed staffed_hub hash late_entered 3 ≡ greeting_of (codes "AAAD") ++ early_told ∷ [])
    × (lines_owed staffed_hub hash late_entered 4 ≡ greeting_of (codes "AAAE") ++ op_told ∷ late_told ∷ [])
    × (stage staffed_hub hash late_entered 3 ≡ stages.Gone)
    × (present staffed_hub hash late_entered ≡ 1 ∷ 4 ∷ [])
