-- Every history keeps these, in the words of the protocol.
use Rattle.std.specs.Prelude.{◌≡◌, ℕ, ◌+◌, ◌<◌, ◌≤◌, ◌==◌, Bool, true, false, List, [], ◌∷◌, length}
use Rattle.std.specs.List.{list_any}
use Rattle.login_state.specs.declared.stage.Stage.TheVariants.{Normal, Gone}
use Rattle.hub_rules.specs.declared.history.Call.{Call}
use Rattle.hub_rules.specs.declared.history.Call.TheVariants as calls
use Rattle.hub_rules.specs.declared.history.Entry.{Entry}
use Rattle.hub_rules.specs.declared.history.Reply.{Reply}
use Rattle.hub_rules.specs.declared.history.Reply.TheVariants as replies
use Rattle.hub_rules.specs.Configured.{most_users, Configured}
use Rattle.hub_rules.specs.History.{open_connections, present, sid, stage, count_taken}
use Rattle.hub_rules.specs.Legal.{Legal}

abbrev pub is_in : ℕ → List ℕ → Bool
is_in c cs = list_any (λ d. d == c) cs

-- ---- who is present

-- exactly the connections at the stage of users
abbrev pub PresentAreUsers : Type 0
PresentAreUsers = (setup : Configured) (hash : List ℕ → List ℕ) (h : List Entry) (c : ℕ) → (is_in c (present setup hash h) ≡ true → stage setup hash h c ≡ Normal) × (stage setup hash h c ≡ Normal → is_in c (present setup hash h) ≡ true)

-- they are open
abbrev pub UsersAreOpen : Type 0
UsersAreOpen = (setup : Configured) (hash : List ℕ → List ℕ) (h : List Entry) (c : ℕ) → is_in c (present setup hash h) ≡ true → is_in c (open_connections setup hash h) ≡ true

-- a connection that never joined, or that quit, is shut out
abbrev pub OthersAreOut : Type 0
OthersAreOut = (setup : Configured) (hash : List ℕ → List ℕ) (h : List Entry) (c : ℕ) → is_in c (open_connections setup hash h) ≡ false → stage setup hash h c ≡ Gone

-- ---- session identifiers

-- two open connections have two identifiers
abbrev pub SidsDiffer : Type 0
SidsDiffer =
    (setup : Configured) (hash : List ℕ → List ℕ) (h : List Entry) → setup.plain.max_users ≤ most_users → (c d : ℕ) → is_in c (open_connections setup hash h) ≡ true → is_in d (open_connections setup hash h) ≡ true
    → sid setup hash h c ≡ sid setup hash h d → c ≡ d

-- none of them is the first, AAAA, and all have four digits
abbrev pub SidsAreGiven : Type 0
SidsAreGiven =
    (setup : Configured) (hash : List ℕ → List ℕ) (h : List Entry) → setup.plain.max_users ≤ most_users → (c : ℕ) → is_in c (open_connections setup hash h) ≡ true
    → (0 < sid setup hash h c) × (sid setup hash h c < 1_048_576)

-- no more connections are open than the hub admits
abbrev pub FewAreOpen : Type 0
FewAreOpen = (setup : Configured) (hash : List ℕ → List ℕ) (h : List Entry) → setup.plain.max_users ≤ most_users → length (open_connections setup hash h) ≤ setup.plain.max_users

-- ---- takes

-- the lines that a reply to a take of this connection counts
abbrev pub lines_of_take : Bool → Reply → ℕ
lines_of_take true (replies.Took bytes lines ended) = lines
lines_of_take same reply = 0

abbrev pub lines_taken : ℕ → Call → Reply → ℕ
lines_taken c (calls.Take d count) reply = lines_of_take (d == c) reply
lines_taken c call reply = 0

-- the sum over the replies to the takes of a connection
unfoldable pub taken_in : ℕ → List Entry → ℕ
taken_in c [] = 0
taken_in c (e ∷ h) = taken_in c h + lines_taken c e.call e.reply

-- what a connection took is that sum
abbrev pub TakenIsTheSum : Type 0
TakenIsTheSum = (setup : Configured) (hash : List ℕ → List ℕ) (h : List Entry) → Legal setup hash h → (c : ℕ) → count_taken setup hash h c ≡ taken_in c h
