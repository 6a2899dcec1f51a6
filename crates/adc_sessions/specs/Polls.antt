-- A session in one poll: what it knows beside what it holds, the rules of its calls, and why the poll ends.
use Rattle.std.specs.Prelude.{◌≡◌, ◌≢◌, ◌⊎◌, ◌≤◌, ℕ, Bool, true, false, List, [], length, Option, Some, None, IsSome}
use Rattle.futures.specs.declared.task.Poll.{Poll}
use Rattle.futures.specs.declared.task.Poll.TheVariants.{Ready, Pending}
use Rattle.adc_line.specs.Frames.{HasNoLf}
use Rattle.adc_sessions.specs.declared.ending.End.{End}
use Rattle.adc_sessions.specs.declared.running.Turn.{Turn}
use Rattle.adc_sessions.specs.declared.running.Turn.TheVariants.{Again, Rest, Over}
use Rattle.adc_sessions.specs.Events.{StreamCall, PortCall, read, wrote, on_stream, Runs, IsCaughtUp, HasNoFault, StopsAtFault, EndsWith, TakesFirst}
use Rattle.adc_sessions.specs.Acts.{BellCall, SessionAct, did, on_bell, events_of, fresh_after, rung_after, may_after, reads_after, untold_after, full_after, TellsBell, IsTake, IsHandOver, IsReadAct, MayBegin, TellsNothing, AsksWith}
use Rattle.adc_sessions.specs.Machine.{State, Step, LastTook, EndsAs}

-- what the session holds, and its bell; whether the port was not called yet in this poll; whether the bell had been rung when it was last heard in
-- this poll; whether it said that a line may be handed over when it was last asked in this poll, and since the last line; whether no read was tried
-- since the last take of this poll; how many bytes were written of which the bell was not told; and whether the stream would take nothing of what it was
-- offered, since the bell was last told of a write
pub record Polled (S P B : Type 0) : Type 0 where
  pub state : State S P
  pub bell : B
  pub fresh : Bool
  pub rung : Option Bool
  pub may_hand : Option Bool
  pub reads_next : Bool
  pub untold : ℕ
  pub full : Bool

-- a poll begins: the bell was neither heard nor asked
abbrev pub poll_begins : {S P B : Type 0} → State S P → B → Bool → Polled S P B
poll_begins state bell full = record {
  state = state;
  bell = bell;
  fresh = true;
  rung = None;
  may_hand = None;
  reads_next = false;
  untold = 0;
  full = full;
}

-- for how many bytes of output a session keeps room while it rests
abbrev pub most_kept : ℕ
most_kept = 512

-- the reason for which nothing more is read now: a read was tried last, and had to wait; or the port hears nothing more; or the bell said that no line
-- may be handed over
abbrev pub ReadsNoMore : {S P B : Type 0} → List SessionAct → Polled S P B → Type 0
ReadsNoMore acts b = EndsWith (did (on_stream (read []))) acts ⊎ ((b.state.over ≡ true) ⊎ (b.may_hand ≡ Some false))

-- a take may follow a take with no read between them: the port hears nothing more; or the input is over, and no whole line waits; or the bell said that
-- no line may be handed over
abbrev pub MayTakeAgain : {S P B : Type 0} → Polled S P B → Type 0
MayTakeAgain a = (a.state.over ≡ true) ⊎ (((a.state.met ≡ true) × HasNoLf a.state.unread) ⊎ (a.may_hand ≡ Some false))

-- a take is wanted: something may wait of which nobody tells; or the bell had been rung; or the input is over, and the last take gave lines
abbrev pub WantsTake : {S P B : Type 0} → Polled S P B → Type 0
WantsTake a =
    (a.state.owes ≡ true)
    ⊎ ((a.rung ≡ Some true) ⊎ ((a.state.met ≡ true) × HasNoLf a.state.unread × (LastTook a.state (λ taken. taken.lines ≡ 0) → ⊥)))

module _ {S P B : Type 0} (reports : S → StreamCall → S → Type 0) (calls : P → PortCall → P → Type 0) (hears : B → BellCall → B → Type 0) where
  abbrev pub Acted : Polled S P B → SessionAct → Polled S P B → Type 0
  Acted a (did event) b = Step reports calls a.state event b.state × (b.bell ≡ a.bell)
  Acted a (on_bell call) b = hears a.bell call b.bell × (b.state ≡ a.state)

  -- one call, and the rules that all calls of a poll keep
  pub record Acts (a : Polled S P B) (act : SessionAct) (b : Polled S P B) : Type 0 where
    pub acted : Acted a act b
    pub fresh_kept : b.fresh ≡ fresh_after a.fresh act
    pub rung_kept : b.rung ≡ rung_after a.rung act
    pub may_kept : b.may_hand ≡ may_after a.may_hand act
    pub reads_kept : b.reads_next ≡ reads_after a.reads_next act
    pub untold_kept : b.untold ≡ untold_after a.untold act
    pub full_kept : b.full ≡ full_after a.full act
    -- the first call of the port in a poll is a take, and before it only writes and calls of the bell
    pub begins : a.fresh ≡ true → MayBegin act
    -- the bell is heard before that take
    pub hears_first : IsTake act → a.fresh ≡ true → IsSome a.rung
    -- between two takes a read is tried, where the session still reads
    pub takes_turns : IsTake act → a.reads_next ≡ true → MayTakeAgain a
    -- each further take of a poll is wanted
    pub takes_for : IsTake act → a.fresh ≡ false → WantsTake a
    -- nothing is read while a whole line waits, or behind the end of the input
    pub reads_on : IsReadAct act → HasNoLf a.state.unread × (a.state.met ≡ false)
    -- nothing is read and no line is handed over where the bell said that no line may be
    pub waits_for_bell : a.may_hand ≡ Some false → TellsNothing act
    -- the bell is asked before each line that is handed over, and says that it may be
    pub asks_first : IsHandOver act → a.may_hand ≡ Some true
    -- the bell is told of each write, before anything else is done
    pub tells_bell : TellsBell a.untold a.full act
    -- the bell is asked with the number of all bytes that were read and not handed over
    pub asks_with : AsksWith (length a.state.unread) act

  -- exactly so many calls of the stream and the port
  abbrev pub ActsBy : ℕ → Polled S P B → Polled S P B → Type 0
  ActsBy count a b = (acts : List SessionAct) × Runs Acts a acts b × (length (events_of acts) ≡ count) × HasNoFault (events_of acts)

  -- The reason for which a turn rests: the stream would not take what waits to be written; or all is written, the port has no more to give, the bell had
  -- not been rung when it was heard in this poll, and nothing more is read now.
  abbrev pub Rests : List SessionAct → Polled S P B → Type 0
  Rests acts b =
      (EndsWith (did (on_stream (wrote []))) acts × (b.state.pending ≢ []))
      ⊎ ((b.state.pending ≡ []) × (b.state.owes ≡ false) × (b.fresh ≡ false) × (b.rung ≡ Some false) × ReadsNoMore acts b)

  -- a session comes to this end with this stream and this port, by at most so many calls
  abbrev pub PollEnds : ℕ → Polled S P B → End → S → P → Type 0
  PollEnds most a end stream port =
      (acts : List SessionAct) × (b : Polled S P B) × Runs Acts a acts b × EndsAs end (events_of acts) b.state × (b.state.stream ≡ stream) × (b.state.port ≡ port)
      × (length (events_of acts) ≤ most) × StopsAtFault (events_of acts)

  -- one turn makes at most one call of the stream or the port, and exactly one where another may follow
  abbrev pub Turned : Polled S P B → Turn → Polled S P B → Type 0
  Turned a Again b = ActsBy 1 a b
  Turned a Rest b = (acts : List SessionAct) × Runs Acts a acts b × (length (events_of acts) ≤ 1) × HasNoFault (events_of acts) × Rests acts b
  Turned a (Over end) b = PollEnds 1 a end b.state.stream b.state.port

  -- The reason for which a poll ends, which made at most so many calls: it made them all, and the task is woken; or the stream would not take what waits
  -- to be written; or all is written, the port has no more to give, the bell had not been rung when it was heard in this poll, nothing more is read now, and
  -- little room is kept.
  abbrev pub Pauses : Bool → ℕ → ℕ → List SessionAct → Polled S P B → Type 0
  Pauses is_woken room most acts b =
      ((length (events_of acts) ≡ most) × (is_woken ≡ true))
      ⊎ ((EndsWith (did (on_stream (wrote []))) acts × (b.state.pending ≢ []))
      ⊎ ((b.state.pending ≡ []) × IsCaughtUp (events_of acts) × (b.rung ≡ Some false) × ReadsNoMore acts b × (room ≤ most_kept)))

  -- a poll that is pending, which began in one state and left another
  abbrev pub PausesIn : Bool → ℕ → ℕ → Polled S P B → Polled S P B → Type 0
  PausesIn is_woken room most a b =
      (acts : List SessionAct) × Runs Acts a acts b × (length (events_of acts) ≤ most) × HasNoFault (events_of acts) × TakesFirst true (events_of acts)
      × Pauses is_woken room most acts b

  -- one poll makes at most so many calls
  abbrev pub PolledBy : ℕ → Polled S P B → Poll End → Polled S P B → Bool → ℕ → Type 0
  PolledBy most a Pending b is_woken room = PausesIn is_woken room most a b
  PolledBy most a (Ready end) b is_woken room = PollEnds most a end b.state.stream b.state.port
