-- Logins with a password, to the byte.
use Rattle.std.specs.Prelude.{◌≡◌, ℕ, true, List, [], ◌∷◌, ◌++◌, codes, replicate, Some}
use Rattle.login_state.specs.declared.stage.Stage.TheVariants as stages
use Rattle.hub_rules.specs.declared.history.Entry.{Entry}
use Rattle.hub_rules.specs.declared.history.Verdict.TheVariants.{Ended, Kept}
use Rattle.hub_rules.specs.Configured.{Configured}
use Rattle.hub_rules.specs.History.{lines_owed, present, stage}
use Rattle.hub_rules.specs.Legal.{Legal}
use Rattle.hub_rules.specs.Texts.{with_line_feed}
use Rattle.hub_examples.specs.Conversations.{greeting_of, one, plain, sup_text, zeros}
use Rattle.hub_examples.specs.Steps.{joins, says}

-- a hub with one account, an operator's, and one entry for menus
abbrev pub staffed_hub : Configured
staffed_hub = record plain {
  accounts = record { key = codes "op"; password = codes "secret"; operator = true } ∷ [];
  menu = record { name = codes "Help"; context = 1; text = Some (with_line_feed (codes "HMSG !help")) } ∷ [];
}

-- ---- the operator logs in, with a client that has menus and names its features by their early names

abbrev pub op_joined : List Entry
op_joined = joins 1 0 []

abbrev pub op_sup : List ℕ
op_sup = codes "HSUP ADBAS0 ADTIGR ADUCM0 ADZLIF"

abbrev pub op_asked : List Entry
op_asked = says 1 op_sup 0 Kept op_joined

abbrev pub op_text : List ℕ
op_text = codes "BINF AAAB IDAAAAAAAAAAAAAAAAAAAAAAAAAAAAAAAAAAAAAAA PDAAAAAAAAAAAAAAAAAAAAAAAAAAAAAAAAAAAAAAA NIop"

abbrev pub op_named : List Entry
op_named = says 1 op_text 0 Kept op_asked

-- the challenge, which the hub spells
abbrev pub challenge_told : List ℕ
challenge_told = with_line_feed (codes "IGPA AAAAAAAAAAAAAAAAAAAAAAAAAAAAAAAAAAAAAAA")

-- the digest of the password and the challenge, in the examples
abbrev pub secret_digest : List ℕ
secret_digest = codes "secret" ++ replicate 18 0

abbrev pub pass_text : List ℕ
pass_text = codes "HPAS ONSWG4TFOQAAAAAAAAAAAAAAAAAAAAAAAAAAAAA"

abbrev pub op_entered : List Entry
op_entered = says 1 pass_text 0 Kept op_named

abbrev pub op_told : List ℕ
op_told = with_line_feed (codes "BINF AAAB IDAAAAAAAAAAAAAAAAAAAAAAAAAAAAAAAAAAAAAAA NIop CT4")

abbrev pub menu_told : List ℕ
menu_told = with_line_feed (codes "ICMD Help CT1 TTHMSG\\s!help\\n")

-- a login with the nick of an account is asked for the password, and is not present yet
abbrev pub PasswordIsAsked : Type 0
PasswordIsAsked =
    (hash : List ℕ → List ℕ) → hash zeros ≡ zeros → hash (codes "secret" ++ zeros) ≡ secret_digest
    → Legal staffed_hub hash op_named
    × (lines_owed staffed_hub hash op_named 1 ≡ greeting_of (codes "AAAB") ++ challenge_told ∷ [])
    × (present staffed_hub hash op_named ≡ [])

-- with the right one it enters, the hub says that it is an operator, and its client has the menu
abbrev pub RightPasswordEnters : Type 0
RightPasswordEnters =
    (hash : List ℕ → List ℕ) → hash zeros ≡ zeros → hash (codes "secret" ++ zeros) ≡ secret_digest
    → Legal staffed_hub hash op_entered
    × (lines_owed staffed_hub hash op_entered 1 ≡ greeting_of (codes "AAAB") ++ challenge_told ∷ op_told ∷ menu_told ∷ [])
    × (present staffed_hub hash op_entered ≡ 1 ∷ [])

abbrev pub wrong_text : List ℕ
wrong_text = codes "HPAS AAAAAAAAAAAAAAAAAAAAAAAAAAAAAAAAAAAAAAA"

abbrev pub op_refused : List Entry
op_refused = says 1 wrong_text 0 Ended op_named

-- with a wrong one it is told so, and shut out
abbrev pub WrongPasswordIsRefused : Type 0
WrongPasswordIsRefused =
    (hash : List ℕ → List ℕ) → hash zeros ≡ zeros → hash (codes "secret" ++ zeros) ≡ secret_digest
    → Legal staffed_hub hash op_refused
    × (lines_owed staffed_hub hash op_refused 1 ≡ greeting_of (codes "AAAB") ++ challenge_told ∷ with_line_feed (codes "ISTA 223 Invalid\\spassword") ∷ [])
    × (stage staffed_hub hash op_refused 1 ≡ stages.Gone)

-- ---- two logins with the same nick, both of which wait for the password

abbrev pub rival_asked : List Entry
rival_asked = says 2 sup_text 0 Kept (joins 2 0 op_named)

abbrev pub rival_text : List ℕ
rival_text = codes "BINF AAAC IDAAAAAAAAAAAAAAAAAAAAAAAAAAAAAAAAAAAAAAI PDAAAAAAAAAAAAAAAAAAAAAAAAAAAAAAAAAAAAAAI NIop"

abbrev pub rival_named : List Entry
rival_named = says 2 rival_text 0 Kept rival_asked

-- both give the right one
abbrev pub op_first : List Entry
op_first = says 1 pass_text 0 Kept rival_named

abbrev pub rival_refused : List Entry
rival_refused = says 2 pass_text 0 Ended op_first

-- the first enters, and the other is told that the nick is taken by now, and shut out
abbrev pub NickIsLookedAtAgain : Type 0
NickIsLookedAtAgain =
    (hash : List ℕ → List ℕ) → hash zeros ≡ zeros → hash one ≡ one → hash (codes "secret" ++ zeros) ≡ secret_digest
    → Legal staffed_hub hash rival_refused
    × (lines_owed staffed_hub hash rival_refused 1 ≡ greeting_of (codes "AAAB") ++ challenge_told ∷ op_told ∷ menu_told ∷ [])
    × (lines_owed staffed_hub hash rival_refused 2 ≡ greeting_of (codes "AAAC") ++ challenge_told ∷ with_line_feed (codes "ISTA 222 Nick\\staken") ∷ [])
    × (present staffed_hub hash rival_refused ≡ 1 ∷ [])
    × (stage staffed_hub hash rival_refused 2 ≡ stages.Gone)
