-- The state of a session that runs, read off its fields.
use Rattle.std.specs.Prelude.{◌∷◌, ◌++◌, ℕ, true, false, List, [], None, drop}
use Rattle.std.specs.Vec.{vec_capacity}
use Rattle.adc_sessions.specs.declared.running.Live.{Live}
use Rattle.adc_line.specs.Frames.{lf}
use Rattle.adc_sessions.specs.Machine.{State}
use Rattle.adc_sessions.specs.Polls.{Polled, poll_begins}

abbrev pub state_of : {S P B : Type 0} → Live S P B → State S P
state_of live = record {
  stream = live.stream;
  port = live.port;
  unread = live.framer;
  pending = drop live.written live.output.items;
  met = live.has_met_end;
  told = live.taken;
  over = live.is_over;
  owes = live.owes_take;
}

-- in the midst of a poll
abbrev pub poll_of : {S P B : Type 0} → Live S P B → Polled S P B
poll_of live = record {
  state = state_of live;
  bell = live.bell;
  fresh = live.is_fresh;
  rung = live.rung;
  may_hand = live.may_hand;
  reads_next = live.reads_next;
  untold = 0;
  full = live.is_full;
}

-- where a poll begins
abbrev pub polling : {S P B : Type 0} → Live S P B → Polled S P B
polling live = poll_begins (state_of live) live.bell live.is_full

-- how many bytes for output it has room for
abbrev pub room_of : {S P B : Type 0} → Live S P B → ℕ
room_of live = vec_capacity live.output

-- nothing was read, taken or written
abbrev pub fresh : {S P : Type 0} → S → P → State S P
fresh stream port = record {
  stream = stream;
  port = port;
  unread = [];
  pending = [];
  met = false;
  told = None;
  over = false;
  owes = true;
}

-- with a line that came out of the framer put back before the unread bytes
abbrev pub with_line : {S P B : Type 0} → List ℕ → Polled S P B → Polled S P B
with_line line polled = record polled { state = record polled.state { unread = line ++ lf ∷ polled.state.unread } }
