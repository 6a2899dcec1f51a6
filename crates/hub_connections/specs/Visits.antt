-- The visits of a caller: what its calls of the hub are made of. Lists of calls and of visits are written newest first, as histories are.
use Rattle.std.specs.Prelude.{◌≡◌, ℕ, List, [], ◌∷◌, ◌++◌, reverse, ⊤}
use Rattle.std.specs.List.{All, flat_map}
use Rattle.adc_sessions.specs.declared.ending.End.{End}
use Rattle.adc_sessions.specs.Events.{StreamCall, Event, port_calls}
use Rattle.adc_sessions.specs.Served.{Conversed}
use Rattle.hub_core.specs.Moves.{entry}
use Rattle.hub_rules.specs.declared.history.Call.TheVariants.{Join, Quit}
use Rattle.hub_rules.specs.declared.history.Entry.{Entry}
use Rattle.hub_rules.specs.declared.history.Reply.{Reply}
use Rattle.hub_rules.specs.declared.history.Reply.TheVariants.{Joined, Full, JoinsSpent, Left}
use Rattle.hub_connections.specs.Answers.{AreAnswered}
use Rattle.hub_shared.specs.Callers.{PassState, VisitorState}

-- a visit of the hub from an address, with a challenge and at a moment
pub data Visit : Type 0 where
  -- the join was refused with this reply
  join_refused : List ℕ → List ℕ → ℕ → Reply → Visit
  -- joined as this connection, which nobody could serve
  joined_only : List ℕ → List ℕ → ℕ → ℕ → Visit
  -- joined as this connection, which a session served until this end: what it did, and its calls of the hub, oldest first
  served : List ℕ → List ℕ → ℕ → ℕ → End → List Event → List Entry → Visit

-- the calls of a caller by which it joined and quit as a connection, with those in between
abbrev pub calls_within : ℕ → List ℕ → List ℕ → ℕ → ℕ → List Entry → List Entry
calls_within caller peer challenge now connection between =
    entry caller (Quit connection) Left ∷ between ++ entry caller (Join peer challenge now) (Joined connection) ∷ []

-- the calls of a visit
abbrev pub calls_of : ℕ → Visit → List Entry
calls_of caller (join_refused peer challenge now reply) = entry caller (Join peer challenge now) reply ∷ []
calls_of caller (joined_only peer challenge now connection) = calls_within caller peer challenge now connection []
calls_of caller (served peer challenge now connection end events calls) = calls_within caller peer challenge now connection (reverse calls)

-- by such a reply a join is refused
abbrev pub RefusesJoin : Reply → Type 0
RefusesJoin Full = ⊤
RefusesJoin JoinsSpent = ⊤
RefusesJoin reply = ⊥

-- what a stream tells of its calls, the moments that a clock tells, and who came: an address, a challenge and a stream as it began
module _ {S : Type 0} (reports : S → StreamCall → S → Type 0) (may_read : ℕ → Type 0) (arrives : List ℕ → List ℕ → S → Type 0) where
  -- somebody came from this address, was dealt this challenge, and joined at a moment that the clock told
  abbrev pub HasArrived : List ℕ → List ℕ → ℕ → S → Type 0
  HasArrived peer challenge now stream = ∥ may_read now ∥₁ × ∥ arrives peer challenge stream ∥₁

  -- A visit is one of somebody who came, and ends with a refusal or with a quit. Where a session served the connection, it served that stream,
  -- and its calls of the port are the visit's calls of the hub.
  abbrev pub IsVisit : ℕ → Visit → Type 0
  IsVisit caller (join_refused peer challenge now reply) = RefusesJoin reply × ((stream : S) × HasArrived peer challenge now stream)
  IsVisit caller (joined_only peer challenge now connection) = (stream : S) × HasArrived peer challenge now stream
  IsVisit caller (served peer challenge now connection end events calls) =
      (stream stream' : S) × HasArrived peer challenge now stream × Conversed reports stream end stream' events × AreAnswered may_read caller connection (port_calls events) calls

  -- these calls of a caller are visits, one after another
  pub record AreVisits (caller : ℕ) (mine : List Entry) : Type 0 where
    pub visits : List Visit
    pub calls : mine ≡ flat_map (calls_of caller) visits
    pub each : All (IsVisit caller) visits

  -- behind visits, the last of these calls is the join of this connection, whose stream is this
  pub record HasJoined (stream : S) (caller connection : ℕ) (mine : List Entry) : Type 0 where
    pub peer : List ℕ
    pub challenge : List ℕ
    pub now : ℕ
    pub arrived : HasArrived peer challenge now stream
    pub earlier : List Entry
    pub last : mine ≡ entry caller (Join peer challenge now) (Joined connection) ∷ earlier
    pub visits : AreVisits caller earlier

  -- all that this visitor has called are visits
  abbrev pub HasVisited : {H : Type 0} → VisitorState H → Type 0
  HasVisited visitor = ∥ AreVisits visitor.caller.number visitor.caller.mine ∥₁

  -- this pass has joined for this stream, and made no other call since its visits
  abbrev pub HasEntered : {H : Type 0} → S → PassState H → Type 0
  HasEntered stream pass = ∥ HasJoined stream pass.caller.number pass.connection pass.caller.mine ∥₁
