-- A hub that follows a history, with what is kept of those who joined.
use Rattle.std.specs.Prelude.{◌≡◌, ◌<◌, ℕ, ◌+◌, List, ◌∷◌, Option, Some, None, get_or, length}
use Rattle.history_check.specs.declared.check.Demand.{Demand}
use Rattle.history_check.specs.declared.check.Joined.{Joined}
use Rattle.history_check.specs.declared.written.WrittenEntry as written
use Rattle.history_check.specs.declared.written.WrittenReply as written_reply
use Rattle.history_check.specs.Judged.{Demands}
use Rattle.history_check.specs.Written.{entry_of, reply_of}
use Rattle.hub_core.specs.CoreState.{CoreState}
use Rattle.hub_core.specs.Moves.{StandsAt, entry}
use Rattle.hub_rules.specs.declared.history.Call.{Call}
use Rattle.hub_rules.specs.declared.history.Call.TheVariants.{Join, Line}
use Rattle.hub_rules.specs.declared.history.Entry.{Entry}
use Rattle.hub_rules.specs.Configured.{Configured}
use Rattle.hub_rules.specs.Facts.{Facts, facts}
use Rattle.hub_rules.specs.Legal.{IsOpenFor, MayCall}

-- of the connection that joined as this one, its caller and its challenge
pub record IsJoined (f : Facts) (c : ℕ) (j : Joined) : Type 0 where
  pub number : j.connection ≡ c
  pub owner : (f.about c).owner ≡ j.caller
  pub challenge : (f.about c).sender.challenge ≡ j.challenge

pub record FollowsHistory (setup : Configured) (hash : List ℕ → List ℕ) (h : List Entry) (core : CoreState) (joined : List Joined) : Type 0 where
  pub stands : StandsAt setup hash h core
  pub counted : length joined ≡ (facts setup hash h).joins
  pub known : (i : ℕ) (j : Joined) → i < length joined → j ≡ get_or joined i j → IsJoined (facts setup hash h) (i + 1) j

-- the connection that was found for a caller, where it is open and that caller joined it
abbrev pub FoundAs : Facts → ℕ → ℕ → Option Joined → Type 0
FoundAs f caller c None = IsOpenFor f caller c → ⊥
FoundAs f caller c (Some j) = IsOpenFor f caller c × (j.connection ≡ c) × (j.challenge ≡ (f.about c).sender.challenge)

abbrev pub Finds : ℕ → ℕ → CoreState → List Joined → Option Joined → Type 0
Finds caller c core joined found =
    (setup : Configured) (hash : List ℕ → List ℕ) (h : List Entry) → FollowsHistory setup hash h core joined → FoundAs (facts setup hash h) caller c found

-- a line of a connection with this challenge was said, and this was answered
abbrev pub IsSaidLine : Configured → (List ℕ → List ℕ) → ℕ → List ℕ → List ℕ → ℕ → written_reply.WrittenReply → CoreState → CoreState → Type 0
IsSaidLine setup hash c challenge bytes now reply old new =
    (h : List Entry) (caller : ℕ) → StandsAt setup hash h old → MayCall (facts setup hash h) caller (Line c bytes now)
    → challenge ≡ ((facts setup hash h).about c).sender.challenge → StandsAt setup hash (entry caller (Line c bytes now) (reply_of reply) ∷ h) new

-- a call was made where it may be, and this was answered
abbrev pub MadeAs : Configured → (List ℕ → List ℕ) → List Entry → ℕ → Call → Option written_reply.WrittenReply → CoreState → List Joined → Type 0
MadeAs setup hash h caller call None new after = MayCall (facts setup hash h) caller call → ⊥
MadeAs setup hash h caller call (Some reply) new after =
    MayCall (facts setup hash h) caller call × FollowsHistory setup hash (entry caller call (reply_of reply) ∷ h) new after

abbrev pub IsMade : Configured → (List ℕ → List ℕ) → ℕ → Call → Option written_reply.WrittenReply → CoreState → List Joined → CoreState → List Joined → Type 0
IsMade setup hash caller call reply old before new after =
    (h : List Entry) → FollowsHistory setup hash h old before → MadeAs setup hash h caller call reply new after

-- an entry was looked at: it is the next of a legal history, or this is what the rules demand in its place
abbrev pub LooksAs : Configured → (List ℕ → List ℕ) → List Entry → written.WrittenEntry → Option Demand → CoreState → List Joined → Type 0
LooksAs setup hash h e None new after = FollowsHistory setup hash (entry_of e ∷ h) new after
LooksAs setup hash h e (Some demand) new after = Demands setup hash h e demand

abbrev pub Looks : Configured → (List ℕ → List ℕ) → written.WrittenEntry → Option Demand → CoreState → List Joined → CoreState → List Joined → Type 0
Looks setup hash e demand old before new after =
    (h : List Entry) → FollowsHistory setup hash h old before → LooksAs setup hash h e demand new after

-- a join was asked for, and this was answered
abbrev pub IsJoin : ℕ → List ℕ → List ℕ → ℕ → written_reply.WrittenReply → CoreState → List Joined → CoreState → List Joined → Type 0
IsJoin caller peer challenge now reply old before new after =
    (setup : Configured) (hash : List ℕ → List ℕ) (h : List Entry) → FollowsHistory setup hash h old before
    → FollowsHistory setup hash (entry caller (Join peer challenge now) (reply_of reply) ∷ h) new after
