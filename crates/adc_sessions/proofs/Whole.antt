-- Facts of the bytes that the calls of a session keep, one after another, and that hold at its end.
use Rattle.std.proofs.Common.{◌≡◌, ◌≤◌, ◌++◌, ℕ, Bool, true, false, List, [], ◌∷◌, length, Option, None, IsSomeAnd, refl, sym, ap, subst, ◌∙◌, append_assoc, append-nil, length-append, arith}
use Rattle.std.specs.List.{All, flat_map}
use Rattle.std.proofs.lemmas.Grind.{flat_map-append}
use Rattle.std.proofs.lemmas.List.Elements.{All-nil, All-cons, All-append}
use Rattle.outboxes.specs.declared.taken.Taken.{Taken}
use Rattle.adc_line.specs.Frames.{lf}
use Rattle.adc_line.specs.Stream.{lines, joined_lines, IsLine}
use Rattle.adc_line.proofs.FrameLemmas.{lines-more, lines-too_long}
use Rattle.adc_line.proofs.StreamLemmas.{lines-joined}
use Rattle.adc_sessions.specs.declared.ending.End.{End}
use Rattle.adc_sessions.specs.declared.ending.End.TheVariants as ends
use Rattle.adc_sessions.specs.Events.{StreamCall, PortCall, Event, on_stream, on_port, stream_calls, port_calls, Runs, Happen, most_read, bytes_read, bytes_written, lines_handed, bytes_taken, met_by, told_by, owes_by, after, all_read, all_written, all_handed, all_taken, FallsSilent, waiting_by, CallsWhenWritten}
use Rattle.adc_sessions.specs.Machine.{State, Step, Moves, EndsAs, Gives}
use Rattle.adc_sessions.specs.State.{fresh}
use Rattle.adc_sessions.specs.Served.{handed_all, wrote_all, IsCauseOf, Served}
use Rattle.adc_sessions.proofs.Takes.{drains-last}

joined-all : (events : List Event) → joined_lines (all_handed events) ≡ flat_map (λ event. joined_lines (lines_handed event)) events
joined-all [] = refl
joined-all (event ∷ events) =
    flat_map-append (λ line. line ++ lf ∷ []) (lines_handed event) (all_handed events) ∙ ap (λ rest. joined_lines (lines_handed event) ++ rest) (joined-all events)

module _ {S P : Type 0} (reports : S → StreamCall → S → Type 0) (calls : P → PortCall → P → Type 0) where
  -- where each call moves bytes from what comes in to what is left or goes out, all calls do
  conserved : (into out : Event → List ℕ) (left : State S P → List ℕ) → ((x y : State S P) (event : Event) → Step reports calls x event y → left x ++ into event ≡ out event ++ left y)
      → (events : List Event) (x y : State S P) → Moves reports calls x events y → left x ++ flat_map into events ≡ flat_map out events ++ left y
  conserved into out left each [] x y moves = append-nil (left x) ∙ ap left moves
  conserved into out left each (event ∷ events) x y moves =
      let next = moves.0 in
      sym (append_assoc (left x) (into event) (flat_map into events)) ∙ ap (λ front. front ++ flat_map into events) (each x next event moves.1) ∙ append_assoc (out event) (left next) (flat_map into events)
      ∙ ap (λ rest. out event ++ rest) (conserved into out left each events next y moves.2) ∙ sym (append_assoc (out event) (flat_map out events) (left y))

  all_lines_kept : (events : List Event) (x y : State S P) → Moves reports calls x events y → x.unread ++ all_read events ≡ joined_lines (all_handed events) ++ y.unread
  all_lines_kept events x y moves =
      conserved bytes_read (λ event. joined_lines (lines_handed event)) (λ (z : State S P). z.unread) (λ a b event step. step.lines_kept) events x y moves ∙ ap (λ front. front ++ y.unread) (sym (joined-all events))

  all_bytes_kept : (events : List Event) (x y : State S P) → Moves reports calls x events y → x.pending ++ all_taken events ≡ all_written events ++ y.pending
  all_bytes_kept events x y moves = conserved bytes_taken bytes_written (λ (z : State S P). z.pending) (λ a b event step. step.bytes_kept) events x y moves

  all_are_lines : (events : List Event) (x y : State S P) → Moves reports calls x events y → All IsLine (all_handed events)
  all_are_lines [] x y moves = All-nil IsLine
  all_are_lines (event ∷ events) x y moves = All-append IsLine (lines_handed event) (all_handed events) moves.1.are_lines (all_are_lines events moves.0 y moves.2)

  all_read_few : (events : List Event) (x y : State S P) → Moves reports calls x events y → All (λ event. length (bytes_read event) ≤ most_read) events
  all_read_few [] x y moves = All-nil (λ event. length (bytes_read event) ≤ most_read)
  all_read_few (event ∷ events) x y moves = All-cons (λ event. length (bytes_read event) ≤ most_read) event events moves.1.reads_few (all_read_few events moves.0 y moves.2)

  -- what the fold over all calls says of a value that each call changes
  pub followed : {A : Type 0} (by : A → Event → A) (value : State S P → A) → ((x y : State S P) (event : Event) → Step reports calls x event y → value y ≡ by (value x) event)
      → (events : List Event) (x y : State S P) → Moves reports calls x events y → value y ≡ after by (value x) events
  followed by value each [] x y moves = ap value (sym moves)
  followed by value each (event ∷ events) x y moves = followed by value each events moves.0 y moves.2 ∙ ap (λ now. after by now events) (each x moves.0 event moves.1)

  all_happened : (events : List Event) (x y : State S P) → Moves reports calls x events y → Happen reports calls x.stream x.port events y.stream y.port
  all_happened [] x y moves = (ap (λ (z : State S P). z.stream) moves, ap (λ (z : State S P). z.port) moves)
  all_happened (event ∷ events) x y moves = (moves.0.stream, moves.0.port, moves.1.happened, all_happened events moves.0 y moves.2)

module _ {S P : Type 0} (reports : S → StreamCall → S → Type 0) (calls : P → PortCall → P → Type 0) where
  -- the calls of the stream alone
  streams_of : (events : List Event) (s : S) (p : P) (s' : S) (p' : P) → Happen reports calls s p events s' p' → Runs reports s (stream_calls events) s'
  streams_of [] s p s' p' all = all.0
  streams_of (on_stream call ∷ events) s p s' p' all = (all.0, all.2.0, streams_of events all.0 all.1 s' p' all.3)
  streams_of (on_port call ∷ events) s p s' p' all = subst (λ t. Runs reports t (stream_calls events) s') all.2.1 (streams_of events all.0 all.1 s' p' all.3)

  -- the calls of the port alone
  called_of : (events : List Event) (s : S) (p : P) (s' : S) (p' : P) → Happen reports calls s p events s' p' → Runs calls p (port_calls events) p'
  called_of [] s p s' p' all = all.1
  called_of (on_stream call ∷ events) s p s' p' all = subst (λ q. Runs calls q (port_calls events) p') all.2.1 (called_of events all.0 all.1 s' p' all.3)
  called_of (on_port call ∷ events) s p s' p' all = (all.1, all.2.0, called_of events all.0 all.1 s' p' all.3)

  falls_silent : (events : List Event) (x y : State S P) → Moves reports calls x events y → FallsSilent x.over events
  falls_silent [] x y moves = tt {0}
  falls_silent (event ∷ events) x y moves = (moves.1.hears, subst (λ (over : Bool). FallsSilent over events) moves.1.over_kept (falls_silent events moves.0 y moves.2))

  -- what waits is counted
  counts : (x y : State S P) (event : Event) → Step reports calls x event y → length y.pending ≡ waiting_by (length x.pending) event
  counts x y event step =
      omega (arith, ap length step.bytes_kept, length-append x.pending (bytes_taken event), length-append (bytes_written event) y.pending)

  calls_when_written : (events : List Event) (x y : State S P) → Moves reports calls x events y → CallsWhenWritten (length x.pending) events
  calls_when_written [] x y moves = tt {0}
  calls_when_written (event ∷ events) x y moves = (
    λ is. ap length (moves.1.is_written is),
    subst (λ (count : ℕ). CallsWhenWritten count events) (counts x moves.0 event moves.1) (calls_when_written events moves.0 y moves.2),
  )

no_more : (end : End) (events : List Event) {S P : Type 0} (y : State S P) → EndsAs end events y → handed_all end ≡ true → lines y.unread ≡ []
no_more ends.Closed events y is all = lines-more y.unread is.1
no_more ends.Ended events y is all = cc
no_more ends.ReadFailed events y is all = lines-more y.unread is.0
no_more ends.WriteFailed events y is all = cc
no_more ends.TooLong events y is all = lines-too_long y.unread is.0 is.1
no_more ends.Memory events y is all = cc

nothing_waits : (end : End) (events : List Event) {S P : Type 0} (y : State S P) → EndsAs end events y → wrote_all end ≡ true → y.pending ≡ []
nothing_waits ends.Closed events y is all = is.2
nothing_waits ends.Ended events y is all = is.0
nothing_waits ends.ReadFailed events y is all = cc
nothing_waits ends.WriteFailed events y is all = cc
nothing_waits ends.TooLong events y is all = cc
nothing_waits ends.Memory events y is all = cc

cause_of : (end : End) (events : List Event) {S P : Type 0} (y : State S P) → EndsAs end events y → y.met ≡ after met_by false events → y.told ≡ after told_by None events → y.owes ≡ after owes_by true events → all_read events ≡ joined_lines (all_handed events) ++ y.unread → IsCauseOf end events
cause_of ends.Closed events y is met last owes kept =
    drains-last events (sym owes ∙ is.4) (sym met ∙ is.0) (subst (λ (t : Option Taken). IsSomeAnd t (λ taken. taken.lines ≡ 0)) last is.3)
cause_of ends.Ended events y is met last owes kept = subst (λ (t : Option Taken). IsSomeAnd t (λ taken. taken.ended ≡ true)) last is.1
cause_of ends.ReadFailed events y is met last owes kept = is.1
cause_of ends.WriteFailed events y is met last owes kept = is
cause_of ends.TooLong events y is met last owes kept = (y.unread, kept, is.0, is.1)
cause_of ends.Memory events y is met last owes kept = is

module _ {S P Left : Type 0} (reports : S → StreamCall → S → Type 0) (calls : P → PortCall → P → Type 0) (leaves : P → Left → Type 0) where
  -- what comes out of a session that has read, written and taken nothing
  pub served : (stream : S) (port : P) (end : End) (stream' : S) (left : Left) → Gives reports calls leaves (fresh stream port) end stream' left → Served reports calls leaves stream port end stream' left
  served stream port end stream' left gives =
      let x = fresh stream port in
      let port' = gives.1 in
      let finish = gives.2 in
      let events = finish.0 in
      let y = finish.1 in
      let kept : all_read events ≡ joined_lines (all_handed events) ++ y.unread = all_lines_kept reports calls events x y finish.2 in
      let written : all_taken events ≡ all_written events ++ y.pending = all_bytes_kept reports calls events x y finish.2 in
      let handed : lines (all_read events) ≡ all_handed events ++ lines y.unread = ap lines kept ∙ lines-joined (all_handed events) y.unread (all_are_lines reports calls events x y finish.2) in
      let met_now : y.met ≡ after met_by false events = followed reports calls met_by (λ (z : State S P). z.met) (λ a b event step. step.met_kept) events x y finish.2 in
      let told_now : y.told ≡ after told_by None events = followed reports calls told_by (λ (z : State S P). z.told) (λ a b event step. step.told_kept) events x y finish.2 in
      let owes_now : y.owes ≡ after owes_by true events = followed reports calls owes_by (λ (z : State S P). z.owes) (λ a b event step. step.owes_kept) events x y finish.2 in
      let same_stream : y.stream ≡ stream' = finish.4 in
      let same_port : y.port ≡ port' = finish.5 in
      let happened : Happen reports calls stream port events stream' port' = rw (← same_stream, ← same_port) (all_happened reports calls events x y finish.2) in
      record {
        events = events;
        conversed = record {
          streams = streams_of reports calls events stream port stream' port' happened;
          first_lines = (lines y.unread, handed);
          all_lines = λ all. handed ∙ ap (λ rest. all_handed events ++ rest) (no_more end events y finish.3 all) ∙ append-nil (all_handed events);
          first_bytes = (y.pending, written);
          all_bytes = λ all. written ∙ ap (λ rest. all_written events ++ rest) (nothing_waits end events y finish.3 all) ∙ append-nil (all_written events);
          reads_few = all_read_few reports calls events x y finish.2;
          is_written = calls_when_written reports calls events x y finish.2;
          stops = finish.7;
          silent = falls_silent reports calls events x y finish.2;
          cause = cause_of end events y finish.3 met_now told_now owes_now kept;
        };
        port' = port';
        called = called_of reports calls events stream port stream' port' happened;
        quit = gives.3;
      }
