-- The outcomes of a session.
use Rattle.std.specs.Prelude.{ℕ, IfSome, IsSomeAnd}
use Rattle.futures.specs.declared.task.context.Context.{Context}
use Rattle.adc_sessions.specs.declared.ending.End.{End}
use Rattle.adc_sessions.specs.declared.session.Session.{Session}
use Rattle.adc_sessions.specs.Events.{StreamCall, PortCall}
use Rattle.adc_sessions.specs.Acts.{BellCall}
use Rattle.adc_sessions.specs.Machine.{Gives}
use Rattle.adc_sessions.specs.Polls.{PollEnds, PausesIn}
use Rattle.adc_sessions.specs.State.{state_of, poll_of, polling, room_of}

module _ {S P B : Type 0} (reports : S → StreamCall → S → Type 0) (calls : P → PortCall → P → Type 0) where
  -- the end, the stream and what the port left
  abbrev pub SessionGives : {Left : Type 0} → (P → Left → Type 0) → Session S P B → End × S × Left → Type 0
  SessionGives leaves session out = IfSome session.live (λ live. Gives reports calls leaves (state_of live) out.0 out.1 out.2)

  -- whatever comes out of the later one could have come out of the earlier
  abbrev pub GivesAsBefore : {Left : Type 0} → (P → Left → Type 0) → Session S P B → Session S P B → Type 0
  GivesAsBefore {Left} leaves earlier later = (out : End × S × Left) → SessionGives leaves later out → SessionGives leaves earlier out

module _ {S P B : Type 0} (reports : S → StreamCall → S → Type 0) (calls : P → PortCall → P → Type 0) (hears : B → BellCall → B → Type 0) where
  -- the same, in this poll, after at most so many calls
  abbrev pub EndsIn : {Left : Type 0} → (P → Left → Type 0) → ℕ → Session S P B → End × S × Left → Type 0
  EndsIn leaves most session out = IfSome session.live (λ live. (port : P) × PollEnds reports calls hears most (polling live) out.0 out.1 port × leaves port out.2)

  -- It went on, by at most so many calls, and ended the poll for a cause: it made them all, and has woken its task; or bytes wait that the stream would not
  -- take; or all is written, the port has no more to give, the bell had not been rung when it was heard in this poll, and nothing more is read now. Then it
  -- keeps little room for output.
  abbrev pub GoesOnIn : ℕ → Context → Session S P B → Session S P B → Type 0
  GoesOnIn most cx session later =
      IfSome session.live (λ live. IsSomeAnd later.live (λ next. PausesIn reports calls hears cx.is_woken (room_of next) most (polling live) (poll_of next)))
