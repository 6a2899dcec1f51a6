-- A connection keeps what it joined with, and joins are counted by their replies.
use Rattle.std.specs.Prelude.{◌≡◌, ℕ, ◌+◌, List, [], ◌∷◌, ◌++◌}
use Rattle.hub_rules.specs.declared.history.Call.{Call}
use Rattle.hub_rules.specs.declared.history.Call.TheVariants as calls
use Rattle.hub_rules.specs.declared.history.Entry.{Entry}
use Rattle.hub_rules.specs.declared.history.Reply.{Reply}
use Rattle.hub_rules.specs.declared.history.Reply.TheVariants as replies
use Rattle.hub_rules.specs.Configured.{Configured}
use Rattle.hub_rules.specs.Facts.{Facts, facts, next_sid}
use Rattle.hub_rules.specs.History.{about}
use Rattle.hub_rules.specs.Legal.{Legal}
use Rattle.hub_rules.specs.Shares.{ConnState}

-- a connection has the owner, the address and the challenge of this join, and the first identifier that was free then
abbrev pub IsAsJoined : Facts → ConnState → ℕ → Call → Type 0
IsAsJoined before a caller (calls.Join peer challenge now) =
    (a.owner ≡ caller) × (a.sender.peer ≡ peer) × (a.sender.challenge ≡ challenge) × (a.sender.sid ≡ next_sid before)
IsAsJoined before a caller (calls.Line c bytes now) = ⊥
IsAsJoined before a caller (calls.Quit c) = ⊥
IsAsJoined before a caller (calls.Take c count) = ⊥

-- whatever came later, a connection is as it joined
abbrev pub JoinsStay : Type 0
JoinsStay =
    (setup : Configured) (hash : List ℕ → List ℕ) (later earlier : List Entry) (e : Entry) (c : ℕ)
    → Legal setup hash (later ++ e ∷ earlier) → e.reply ≡ replies.Joined c
    → IsAsJoined (facts setup hash earlier) (about setup hash (later ++ e ∷ earlier) c) e.caller e.call

-- how many replies accept a join
abbrev pub joins_accepted : Reply → ℕ
joins_accepted (replies.Joined c) = 1
joins_accepted reply = 0

unfoldable pub accepted_in : List Entry → ℕ
accepted_in [] = 0
accepted_in (e ∷ h) = accepted_in h + joins_accepted e.reply

-- as many joins were accepted as there are such replies
abbrev pub JoinsAreCounted : Type 0
JoinsAreCounted = (setup : Configured) (hash : List ℕ → List ℕ) (h : List Entry) → Legal setup hash h → (facts setup hash h).joins ≡ accepted_in h
