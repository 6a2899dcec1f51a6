-- The promise of a connection, from its first call of the hub after the join to its quit, in the words of the hub and of the stream.
use Rattle.std.specs.Prelude.{◌≡◌, ◌++◌, ℕ, List, ◌∷◌, reverse}
use Rattle.adc_sessions.specs.declared.ending.End.{End}
use Rattle.adc_sessions.specs.Events.{StreamCall, Event, port_calls}
use Rattle.adc_sessions.specs.Served.{Conversed}
use Rattle.hub_core.specs.Moves.{entry}
use Rattle.hub_rules.specs.declared.history.Call.TheVariants.{Quit}
use Rattle.hub_rules.specs.declared.history.Entry.{Entry}
use Rattle.hub_rules.specs.declared.history.Reply.TheVariants.{Left}
use Rattle.hub_rules.specs.Configured.{Configured}
use Rattle.hub_rules.specs.Legal.{Legal}
use Rattle.hub_connections.specs.Answers.{AreAnswered}
use Rattle.hub_shared.specs.Callers.{PassState, VisitorState}
use Rattle.hub_shared.specs.Connections.{entries_of}

-- the quit of the connection of this pass
abbrev pub quit_of : {H : Type 0} → PassState H → Entry
quit_of pass = entry pass.caller.number (Quit pass.connection) Left

-- the hub: its setup, and what its hash means; what a stream tells of its calls, and the moments that a clock tells
module _ {H S : Type 0} (setup : Configured) (hash : List ℕ → List ℕ) (reports : S → StreamCall → S → Type 0) (may_read : ℕ → Type 0) where
  -- what it comes to that this stream was served for this pass: the end, the stream and the visitor
  pub record ServedByHub (stream : S) (pass : PassState H) (end : End) (stream' : S) (visitor : VisitorState H) : Type 0 where
    -- a session served the stream until this end
    pub events : List Event
    pub conversed : Conversed reports stream end stream' events
    -- its calls of the port are these calls of the hub, oldest first
    pub calls : List Entry
    pub answered : AreAnswered may_read pass.caller.number pass.connection (port_calls events) calls
    pub home : visitor.home ≡ pass.home
    pub number : visitor.caller.number ≡ pass.caller.number
    -- the caller has made these calls and then the quit, after those that it had made
    pub mine : visitor.caller.mine ≡ quit_of pass ∷ reverse calls ++ pass.caller.mine
    -- it has seen a legal history that begins with what it had seen and ends with the quit
    pub seen : (between : List Entry) × (visitor.caller.seen ≡ quit_of pass ∷ between ++ pass.caller.seen)
    pub legal : Legal setup hash visitor.caller.seen
    -- all its entries in that history are these calls and those before
    pub own : entries_of visitor.caller.number visitor.caller.seen ≡ visitor.caller.mine

  -- whatever serving this stream for this pass ends with, that holds of it
  abbrev pub ServesByHub : {Rest : Type 0} → S → PassState H → (End × S × Rest → Type 0) → (Rest → VisitorState H) → Type 0
  ServesByHub {Rest} stream pass gives visitor =
      (end : End) (stream' : S) (left : Rest) → gives (end, stream', left) → ServedByHub stream pass end stream' (visitor left)
