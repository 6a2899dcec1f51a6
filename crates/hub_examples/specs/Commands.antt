-- The commands of users, to the byte: who may, and what is told of it.
use Rattle.std.specs.Prelude.{◌≡◌, ℕ, List, [], ◌∷◌, ◌++◌, codes}
use Rattle.hub_rules.specs.declared.history.Entry.{Entry}
use Rattle.hub_rules.specs.declared.history.Verdict.TheVariants.{Kept}
use Rattle.hub_rules.specs.History.{lines_owed, topic}
use Rattle.hub_rules.specs.Legal.{Legal}
use Rattle.hub_rules.specs.Texts.{with_line_feed}
use Rattle.hub_examples.specs.Conversations.{one, sup_text, zeros}
use Rattle.hub_examples.specs.PasswordLogins.{secret_digest, staffed_hub}
use Rattle.hub_examples.specs.Removals.{bob_before, bob_entered, done_told, op_before}
use Rattle.hub_examples.specs.Steps.{joins, says}
use Rattle.hub_examples.specs.Visitors.{bob_told}

-- bob, who is no operator, tries to kick the operator
abbrev pub bob_tried : List Entry
bob_tried = says 2 (codes "HMSG !kick\\sop") 0 Kept bob_entered

-- the operator kicks somebody who is not there, and asks for what there is not
abbrev pub zoe_called : List Entry
zoe_called = says 1 (codes "HMSG !kick\\szoe") 0 Kept bob_tried

abbrev pub dance_asked : List Entry
dance_asked = says 1 (codes "HMSG !dance") 0 Kept zoe_called

-- it sets a topic
abbrev pub topic_set : List Entry
topic_set = says 1 (codes "HMSG !topic\\snew\\sone") 0 Kept dance_asked

-- and another client says what it supports
abbrev pub other_asked : List Entry
other_asked = says 3 sup_text 0 Kept (joins 3 0 topic_set)

abbrev pub access_told : List ℕ
access_told = with_line_feed (codes "ISTA 125 Access\\sdenied FCHMSG")

abbrev pub no_user_told : List ℕ
no_user_told = with_line_feed (codes "ISTA 100 No\\ssuch\\suser")

abbrev pub bad_command_told : List ℕ
bad_command_told = with_line_feed (codes "ISTA 100 Bad\\scommand")

abbrev pub topic_told : List ℕ
topic_told = with_line_feed (codes "IINF DEnew\\sone")

abbrev pub other_told : List (List ℕ)
other_told =
    with_line_feed (codes "ISUP ADBASE ADTIGR ADPING ADUCMD") ∷ with_line_feed (codes "ISID AAAD") ∷ with_line_feed (codes "IINF CT32 NIHub VEadc-hub\\s1.0 DEnew\\sone") ∷ []

-- a command is for operators, and only its sender hears why it is denied; all hear of a new topic, and so does whoever comes later
abbrev pub CommandsAreForOperators : Type 0
CommandsAreForOperators =
    (hash : List ℕ → List ℕ) → hash zeros ≡ zeros → hash one ≡ one → hash (codes "secret" ++ zeros) ≡ secret_digest
    → Legal staffed_hub hash other_asked
    × (lines_owed staffed_hub hash other_asked 1 ≡ op_before ++ bob_told ∷ no_user_told ∷ bad_command_told ∷ topic_told ∷ done_told ∷ [])
    × (lines_owed staffed_hub hash other_asked 2 ≡ bob_before ++ access_told ∷ topic_told ∷ [])
    × (lines_owed staffed_hub hash other_asked 3 ≡ other_told)
    × (topic staffed_hub hash other_asked ≡ codes "new one")
