-- The knowledge that each call on a hub gives its caller. A history is written newest first, so 'h begins with s' says that s is an end of h.
use Rattle.std.specs.Prelude.{◌≡◌, ℕ, List, ◌∷◌, ◌++◌, length, drop}
use Rattle.one_history.specs.Histories.{Begins}
use Rattle.one_history.specs.States.{Caller}
use Rattle.outboxes.specs.declared.taken.Taken.{Taken}
use Rattle.hub_core.specs.Moves.{entry}
use Rattle.hub_core.specs.declared.refused.JoinRefused.{JoinRefused}
use Rattle.hub_core.specs.declared.refused.JoinRefused.TheVariants as refusals
use Rattle.hub_rules.specs.declared.history.Call.{Call}
use Rattle.hub_rules.specs.declared.history.Call.TheVariants.{Line, Take}
use Rattle.hub_rules.specs.declared.history.Entry.{Entry}
use Rattle.hub_rules.specs.declared.history.Reply.{Reply}
use Rattle.hub_rules.specs.declared.history.Reply.TheVariants as replies
use Rattle.hub_rules.specs.declared.history.Verdict.{Verdict}
use Rattle.hub_rules.specs.Legal.{Legal}
use Rattle.hub_rules.specs.Configured.{Configured}
use Rattle.hub_shared.specs.Callers.{PassState}
use Rattle.hub_shared.specs.Connections.{entries_of}

-- the hub: its setup, and what its hash means
module _ (setup : Configured) (hash : List ℕ → List ℕ) where
  -- The caller has made a call and was answered. It has seen a legal history that begins with what it had seen and ends with this
  -- call; all its entries in it are those that it had made, and this one.
  pub record Made (old : Caller Entry) (call : Call) (reply : Reply) (new : Caller Entry) : Type 0 where
    pub number : new.number ≡ old.number
    pub last : (between : List Entry) × (new.seen ≡ entry old.number call reply ∷ between ++ old.seen)
    pub mine : new.mine ≡ entry old.number call reply ∷ old.mine
    pub legal : Legal setup hash new.seen
    pub own : entries_of new.number new.seen ≡ new.mine

  -- The caller has made no call. It has seen a legal history that begins with what it had seen; all its entries in it are those
  -- that it had made.
  pub record Saw (old new : Caller Entry) : Type 0 where
    pub number : new.number ≡ old.number
    pub begins : Begins new.seen old.seen
    pub mine : new.mine ≡ old.mine
    pub legal : Legal setup hash new.seen
    pub own : entries_of new.number new.seen ≡ new.mine

  -- A join that is refused for want of room or of numbers is a call; one that is refused for want of memory is none.
  abbrev pub Refused : Caller Entry → Call → JoinRefused → Caller Entry → Type 0
  Refused old call refusals.Full new = Made old call replies.Full new
  Refused old call refusals.JoinsSpent new = Made old call replies.JoinsSpent new
  Refused old call refusals.Memory new = Saw old new

-- what is behind the bytes that were there
abbrev pub behind : List ℕ → List ℕ → List ℕ
behind before after = drop (length before) after

-- the connection of this pass has sent a line
abbrev pub SaysLine : {H : Type 0} → Configured → (List ℕ → List ℕ) → PassState H → List ℕ → ℕ → Verdict → Caller Entry → Type 0
SaysLine setup hash pass bytes now verdict new = Made setup hash pass.caller (Line pass.connection bytes now) (replies.Said verdict) new

-- it has taken lines, whose bytes stand behind those that were there
abbrev pub TakesLines : {H : Type 0} → Configured → (List ℕ → List ℕ) → PassState H → ℕ → List ℕ → List ℕ → Taken → Caller Entry → Type 0
TakesLines setup hash pass count before after taken new =
    Made setup hash pass.caller (Take pass.connection count) (replies.Took (behind before after) taken.lines taken.ended) new
