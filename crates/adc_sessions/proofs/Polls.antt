-- Calls of a session in one poll, one after another, and how the poll ends.
use Rattle.std.proofs.Common.{◌≡◌, ◌<◌, ◌≤◌, ◌+◌, ◌++◌, ℕ, Bool, true, false, true≢false, List, [], ◌∷◌, length, Some, None, IsSome, refl, sym, ap, subst, ◌∙◌, inl, inr, ⊎_elim, length-append, arith}
use Rattle.std.proofs.lemmas.Grind.{flat_map-append}
use Rattle.hub_rules.specs.declared.history.Verdict.{Verdict}
use Rattle.outboxes.specs.declared.taken.Taken.{Taken}
use Rattle.adc_line.specs.Frames.{HasNoLf}
use Rattle.adc_sessions.specs.declared.ending.End.{End}
use Rattle.adc_sessions.specs.declared.running.Turn.{Turn}
use Rattle.adc_sessions.specs.declared.running.Turn.TheVariants.{Again, Rest, Over}
use Rattle.adc_sessions.specs.Events.{StreamCall, PortCall, Event, wrote, handed, took, refused, on_stream, on_port, Runs, owes_by, fresh_by, after, GoesFirst, HearsNothing, IsFailedCall, HasNoFault, StopsAtFault, TakesFirst}
use Rattle.adc_sessions.specs.Acts.{BellCall, SessionAct, did, on_bell, events_in, events_of, rung_after, may_after, reads_after, untold_after, full_after, TellsBell, IsReadAct, AsksWith}
use Rattle.adc_sessions.specs.Machine.{State, Step, Moves, EndsAs, FinishesIn}
use Rattle.adc_sessions.specs.Polls.{Polled, most_kept, MayTakeAgain, WantsTake, Acts, ActsBy, ReadsNoMore, Rests, PollEnds, Turned, PausesIn}
use Rattle.adc_sessions.proofs.Steps.{Runs-append, EndsWith-append, EndsAs-append, HasNoFault-append, StopsAtFault-append}
use Rattle.adc_sessions.proofs.Takes.{caught_up}
use Rattle.adc_sessions.proofs.Whole.{followed}

-- one thing after another makes one list of calls of the stream and the port
events-append : (xs ys : List SessionAct) → events_of (xs ++ ys) ≡ events_of xs ++ events_of ys
events-append = flat_map-append events_in

length-events : (xs ys : List SessionAct) → length (events_of (xs ++ ys)) ≡ length (events_of xs) + length (events_of ys)
length-events xs ys = ap length (events-append xs ys) ∙ length-append (events_of xs) (events_of ys)

no_fault : (xs ys : List SessionAct) → HasNoFault (events_of xs) → HasNoFault (events_of ys) → HasNoFault (events_of (xs ++ ys))
no_fault xs ys first last = subst HasNoFault (sym (events-append xs ys)) (HasNoFault-append (events_of xs) (events_of ys) first last)

ReadsNoMore-append : {S P B : Type 0} (before acts : List SessionAct) (b : Polled S P B) → ReadsNoMore acts b → ReadsNoMore (before ++ acts) b
ReadsNoMore-append before acts b (inl last) = inl (EndsWith-append _ before acts last)
ReadsNoMore-append before acts b (inr else) = inr else

-- a write that took something does not find the stream full
pub not_full : (full : Bool) (bytes : List ℕ) → 0 < length bytes → full ≡ full_after full (did (on_stream (wrote bytes)))
not_full full [] some = absurd (omega arith)
not_full full (byte ∷ bytes) some = refl

module _ {S P B : Type 0} (reports : S → StreamCall → S → Type 0) (calls : P → PortCall → P → Type 0) (hears : B → BellCall → B → Type 0) where
  -- a call of the stream
  pub did_on_stream : (a b : Polled S P B) (call : StreamCall) → Step reports calls a.state (on_stream call) b.state → b.bell ≡ a.bell → b.fresh ≡ a.fresh → b.rung ≡ a.rung → b.may_hand ≡ a.may_hand
      → b.reads_next ≡ reads_after a.reads_next (did (on_stream call)) → b.untold ≡ untold_after a.untold (did (on_stream call)) → b.full ≡ full_after a.full (did (on_stream call))
      → (a.fresh ≡ true → GoesFirst (on_stream call)) → (a.may_hand ≡ Some false → HearsNothing (on_stream call)) → (IsReadAct (did (on_stream call)) → HasNoLf a.state.unread × (a.state.met ≡ false)) → a.untold ≡ 0
      → Acts reports calls hears a (did (on_stream call)) b
  did_on_stream a b call step bell fresh rung may reads untold full begins waits goes_on none = record {
    acted = (step, bell);
    fresh_kept = fresh;
    rung_kept = rung;
    may_kept = may;
    reads_kept = reads;
    untold_kept = untold;
    full_kept = full;
    begins = begins;
    hears_first = λ is. absurd is;
    takes_turns = λ is. absurd is;
    takes_for = λ is. absurd is;
    reads_on = goes_on;
    waits_for_bell = waits;
    asks_first = λ is. absurd is;
    tells_bell = none;
    asks_with = tt {0};
  }

  -- a call by which something is read
  pub did_seek : (a b : Polled S P B) (call : StreamCall) → Step reports calls a.state (on_stream call) b.state → b.bell ≡ a.bell → b.fresh ≡ a.fresh → b.rung ≡ a.rung → b.may_hand ≡ a.may_hand
      → b.reads_next ≡ reads_after a.reads_next (did (on_stream call)) → b.untold ≡ untold_after a.untold (did (on_stream call)) → b.full ≡ full_after a.full (did (on_stream call)) → a.untold ≡ 0
      → a.fresh ≡ false → (a.may_hand ≡ Some false → ⊥) → HasNoLf a.state.unread → a.state.met ≡ false → Acts reports calls hears a (did (on_stream call)) b
  did_seek a b call step bell fresh rung may reads untold full none taken free no_line goes_on =
      did_on_stream a b call step bell fresh rung may reads untold full (λ was. absurd (true≢false (sym was ∙ taken))) (λ was. absurd (free was)) (λ is. (no_line, goes_on)) none

  -- a call of the port
  pub did_hand_over : (a b : Polled S P B) (line : List ℕ) (verdict : Verdict) → Step reports calls a.state (on_port (handed line verdict)) b.state → b.bell ≡ a.bell → b.fresh ≡ false → b.rung ≡ a.rung
      → b.may_hand ≡ None → b.reads_next ≡ a.reads_next → b.untold ≡ untold_after a.untold (did (on_port (handed line verdict))) → b.full ≡ a.full → a.untold ≡ 0 → a.fresh ≡ false → a.may_hand ≡ Some true
      → Acts reports calls hears a (did (on_port (handed line verdict))) b
  did_hand_over a b line verdict step bell fresh rung may reads untold full none taken free = record {
    acted = (step, bell);
    fresh_kept = fresh;
    rung_kept = rung;
    may_kept = may;
    reads_kept = reads;
    untold_kept = untold;
    full_kept = full;
    begins = λ was. absurd (true≢false (sym was ∙ taken));
    hears_first = λ is. absurd is;
    takes_turns = λ is. absurd is;
    takes_for = λ is. absurd is;
    reads_on = λ is. absurd is;
    waits_for_bell = λ was. cc;
    asks_first = λ is. free;
    tells_bell = none;
    asks_with = tt {0};
  }

  pub did_take_more : (a b : Polled S P B) (count : ℕ) (bytes : List ℕ) (taken : Taken) → Step reports calls a.state (on_port (took count bytes taken)) b.state → b.bell ≡ a.bell → b.fresh ≡ false
      → b.rung ≡ a.rung → b.may_hand ≡ a.may_hand → b.reads_next ≡ true → b.untold ≡ untold_after a.untold (did (on_port (took count bytes taken))) → b.full ≡ a.full → a.untold ≡ 0
      → (a.fresh ≡ true → IsSome a.rung) → (a.reads_next ≡ true → MayTakeAgain a) → (a.fresh ≡ false → WantsTake a) → Acts reports calls hears a (did (on_port (took count bytes taken))) b
  did_take_more a b count bytes taken step bell fresh rung may reads untold full none heard turns wanted = record {
    acted = (step, bell);
    fresh_kept = fresh;
    rung_kept = rung;
    may_kept = may;
    reads_kept = reads;
    untold_kept = untold;
    full_kept = full;
    begins = λ was. tt {0};
    hears_first = λ is. heard;
    takes_turns = λ is. turns;
    takes_for = λ is. wanted;
    reads_on = λ is. absurd is;
    waits_for_bell = λ was. tt {0};
    asks_first = λ is. absurd is;
    tells_bell = none;
    asks_with = tt {0};
  }

  pub did_get_refused : (a b : Polled S P B) → Step reports calls a.state (on_port refused) b.state → b.bell ≡ a.bell → b.fresh ≡ false → b.rung ≡ a.rung → b.may_hand ≡ a.may_hand → b.reads_next ≡ a.reads_next
      → b.untold ≡ untold_after a.untold (did (on_port refused)) → b.full ≡ a.full → a.untold ≡ 0 → Acts reports calls hears a (did (on_port refused)) b
  did_get_refused a b step bell fresh rung may reads untold full none = record {
    acted = (step, bell);
    fresh_kept = fresh;
    rung_kept = rung;
    may_kept = may;
    reads_kept = reads;
    untold_kept = untold;
    full_kept = full;
    begins = λ was. tt {0};
    hears_first = λ is. absurd is;
    takes_turns = λ is. absurd is;
    takes_for = λ is. absurd is;
    reads_on = λ is. absurd is;
    waits_for_bell = λ was. tt {0};
    asks_first = λ is. absurd is;
    tells_bell = none;
    asks_with = tt {0};
  }

  pub did_on_bell : (a b : Polled S P B) (call : BellCall) → hears a.bell call b.bell → b.state ≡ a.state → b.fresh ≡ a.fresh → b.rung ≡ rung_after a.rung (on_bell call) → b.may_hand ≡ may_after a.may_hand (on_bell call)
      → b.reads_next ≡ a.reads_next → b.untold ≡ untold_after a.untold (on_bell call) → b.full ≡ full_after a.full (on_bell call) → TellsBell a.untold a.full (on_bell call) → AsksWith (length a.state.unread) (on_bell call)
      → Acts reports calls hears a (on_bell call) b
  did_on_bell a b call answered state fresh rung may reads untold full tells asks = record {
    acted = (answered, state);
    fresh_kept = fresh;
    rung_kept = rung;
    may_kept = may;
    reads_kept = reads;
    untold_kept = untold;
    full_kept = full;
    begins = λ was. tt {0};
    hears_first = λ is. absurd is;
    takes_turns = λ is. absurd is;
    takes_for = λ is. absurd is;
    reads_on = λ is. absurd is;
    waits_for_bell = λ was. tt {0};
    asks_first = λ is. absurd is;
    tells_bell = tells;
    asks_with = asks;
  }

  pub no_call : (a : Polled S P B) → ActsBy reports calls hears 0 a a
  no_call a = ([], refl, refl, tt {0})

  pub one_call : (a b : Polled S P B) (event : Event) → Acts reports calls hears a (did event) b → (IsFailedCall event → ⊥) → ActsBy reports calls hears 1 a b
  one_call a b event act sound = (did event ∷ [], (b, act, refl), refl, (sound, tt {0}))

  pub bell_call : (a b : Polled S P B) (call : BellCall) → Acts reports calls hears a (on_bell call) b → ActsBy reports calls hears 0 a b
  bell_call a b call act = (on_bell call ∷ [], (b, act, refl), refl, tt {0})

  pub ActsBy-append : (n m : ℕ) (a b c : Polled S P B) → ActsBy reports calls hears n a b → ActsBy reports calls hears m b c → ActsBy reports calls hears (n + m) a c
  ActsBy-append n m a b c first last = (
    first.0 ++ last.0,
    Runs-append (Acts reports calls hears) first.0 last.0 a b c first.1 last.1,
    omega (arith, first.2, last.2, length-events first.0 last.0),
    no_fault first.0 last.0 first.3 last.3,
  )

  -- an end that is come to without a call
  pub ends_here : (end : End) (a : Polled S P B) → EndsAs end [] a.state → PollEnds reports calls hears 1 a end a.state.stream a.state.port
  ends_here end a is = ([], a, refl, is, refl, refl, omega arith, tt {0})

  -- an end that is come to by one call
  pub ends_after : (end : End) (a b : Polled S P B) (event : Event) → Acts reports calls hears a (did event) b → EndsAs end (event ∷ []) b.state → PollEnds reports calls hears 1 a end b.state.stream b.state.port
  ends_after end a b event act is = (did event ∷ [], b, (b, act, refl), is, refl, refl, omega arith, (λ fault. refl, tt {0}))

  pub PollEnds-append : (n m most : ℕ) (a b : Polled S P B) (end : End) (stream : S) (port : P) → n + m ≤ most → ActsBy reports calls hears n a b → PollEnds reports calls hears m b end stream port → PollEnds reports calls hears most a end stream port
  PollEnds-append n m most a b end stream port enough first last = (
    first.0 ++ last.0,
    last.1,
    Runs-append (Acts reports calls hears) first.0 last.0 a b last.1 first.1 last.2,
    subst (λ (events : List Event). EndsAs end events last.1.state) (sym (events-append first.0 last.0)) (EndsAs-append end (events_of first.0) (events_of last.0) last.1.state last.3),
    last.4,
    last.5,
    omega (arith, enough, first.2, last.6, length-events first.0 last.0),
    subst StopsAtFault (sym (events-append first.0 last.0)) (StopsAtFault-append (events_of first.0) (events_of last.0) first.3 last.7),
  )

  Rests-append : (before acts : List SessionAct) (b : Polled S P B) → Rests reports calls hears acts b → Rests reports calls hears (before ++ acts) b
  Rests-append before acts b (inl last) = inl (EndsWith-append _ before acts last.0, last.1)
  Rests-append before acts b (inr all) = inr (all.0, all.1, all.2, all.3, ReadsNoMore-append before acts b all.4)

  -- a turn of which calls of the bell are a part
  pub turned_behind : (turn : Turn) (a b c : Polled S P B) → ActsBy reports calls hears 0 a b → Turned reports calls hears b turn c → Turned reports calls hears a turn c
  turned_behind Again a b c first last = ActsBy-append 0 1 a b c first last
  turned_behind Rest a b c first last = (
    first.0 ++ last.0,
    Runs-append (Acts reports calls hears) first.0 last.0 a b c first.1 last.1,
    omega (arith, first.2, last.2, length-events first.0 last.0),
    no_fault first.0 last.0 first.3 last.3,
    Rests-append first.0 last.0 c last.4,
  )
  turned_behind (Over end) a b c first last = PollEnds-append 0 1 1 a b end c.state.stream c.state.port (omega arith) first last

  -- a turn that rests behind a call of the stream, or behind calls of the bell alone
  pub rests_after : (a b : Polled S P B) (event : Event) → Acts reports calls hears a (did event) b → (IsFailedCall event → ⊥) → Rests reports calls hears (did event ∷ []) b → Turned reports calls hears a Rest b
  rests_after a b event act sound why = (did event ∷ [], (b, act, refl), omega arith, (sound, tt {0}), why)

  pub rests_here : (a : Polled S P B) → Rests reports calls hears [] a → Turned reports calls hears a Rest a
  rests_here a why = ([], refl, omega arith, tt {0}, why)

  -- what a poll makes of what a session holds
  pub moves_of : (acts : List SessionAct) (a b : Polled S P B) → Runs (Acts reports calls hears) a acts b → Moves reports calls a.state (events_of acts) b.state
  moves_of [] a b runs = ap (λ (x : Polled S P B). x.state) runs
  moves_of (did event ∷ acts) a b runs = (runs.0.state, runs.1.acted.0, moves_of acts runs.0 b runs.2)
  moves_of (on_bell call ∷ acts) a b runs = subst (λ (x : State S P). Moves reports calls x (events_of acts) b.state) runs.1.acted.1 (moves_of acts runs.0 b runs.2)

  pub finishes_of : (most : ℕ) (a : Polled S P B) (end : End) (stream : S) (port : P) → PollEnds reports calls hears most a end stream port → FinishesIn reports calls most a.state end stream port
  finishes_of most a end stream port ends = (events_of ends.0, ends.1.state, moves_of ends.0 a ends.1 ends.2, ends.3, ends.4, ends.5, ends.6, ends.7)

  -- the stream and the port by other names
  pub PollEnds-left : (most : ℕ) (a : Polled S P B) (end : End) (s t : S) (p q : P) → PollEnds reports calls hears most a end s p → t ≡ s → q ≡ p → PollEnds reports calls hears most a end t q
  PollEnds-left most a end s t p q ends stream port = (ends.0, ends.1, ends.2, ends.3, ends.4 ∙ sym stream, ends.5 ∙ sym port, ends.6, ends.7)

  takes_first : (acts : List SessionAct) (a b : Polled S P B) → Runs (Acts reports calls hears) a acts b → TakesFirst a.fresh (events_of acts)
  takes_first [] a b runs = tt {0}
  takes_first (did event ∷ acts) a b runs = (runs.1.begins, subst (λ (fresh : Bool). TakesFirst fresh (events_of acts)) runs.1.fresh_kept (takes_first acts runs.0 b runs.2))
  takes_first (on_bell call ∷ acts) a b runs = subst (λ (fresh : Bool). TakesFirst fresh (events_of acts)) runs.1.fresh_kept (takes_first acts runs.0 b runs.2)

  fresh_now : (acts : List SessionAct) (a b : Polled S P B) → Runs (Acts reports calls hears) a acts b → b.fresh ≡ after fresh_by a.fresh (events_of acts)
  fresh_now [] a b runs = ap (λ (x : Polled S P B). x.fresh) (sym runs)
  fresh_now (did event ∷ acts) a b runs = fresh_now acts runs.0 b runs.2 ∙ ap (λ fresh. after fresh_by fresh (events_of acts)) runs.1.fresh_kept
  fresh_now (on_bell call ∷ acts) a b runs = fresh_now acts runs.0 b runs.2 ∙ ap (λ fresh. after fresh_by fresh (events_of acts)) runs.1.fresh_kept

  -- a poll that made all its calls
  pub pauses_full : (is_woken : Bool) (room : ℕ) (n most : ℕ) (a b : Polled S P B) → a.fresh ≡ true → n ≡ most → is_woken ≡ true → ActsBy reports calls hears n a b → PausesIn reports calls hears is_woken room most a b
  pauses_full is_woken room n most a b begins all woken acts = (
    acts.0,
    acts.1,
    omega (arith, all, acts.2),
    acts.3,
    subst (λ (fresh : Bool). TakesFirst fresh (events_of acts.0)) begins (takes_first acts.0 a b acts.1),
    inl (acts.2 ∙ all, woken),
  )

  -- a poll whose last turn rests
  pub pauses_after : (is_woken : Bool) (room : ℕ) (n most : ℕ) (a b c : Polled S P B) → a.fresh ≡ true → n + 1 ≤ most → (c.state.pending ≡ [] → room ≤ most_kept) → ActsBy reports calls hears n a b → Turned reports calls hears b Rest c
      → PausesIn reports calls hears is_woken room most a c
  pauses_after is_woken room n most a b c begins enough keeps first last =
      let acts = first.0 ++ last.0 in
      let runs : Runs (Acts reports calls hears) a acts c = Runs-append (Acts reports calls hears) first.0 last.0 a b c first.1 last.1 in
      let takes : TakesFirst true (events_of acts) = subst (λ (fresh : Bool). TakesFirst fresh (events_of acts)) begins (takes_first acts a c runs) in (
        acts,
        runs,
        omega (arith, enough, first.2, last.2, length-events first.0 last.0),
        no_fault first.0 last.0 first.3 last.3,
        takes,
        ⊎_elim (λ stalled. inr (inl stalled))
            (λ all.
            let moves : Moves reports calls a.state (events_of acts) c.state = moves_of acts a c runs in
            let owes : c.state.owes ≡ after owes_by a.state.owes (events_of acts) = followed reports calls owes_by (λ (w : State S P). w.owes) (λ x y event step. step.owes_kept) (events_of acts) a.state c.state moves in
            let called : c.fresh ≡ after fresh_by true (events_of acts) = fresh_now acts a c runs ∙ ap (λ fresh. after fresh_by fresh (events_of acts)) begins in
            inr (inr (all.0, caught_up (events_of acts) a.state.owes (sym owes ∙ all.1) (sym called ∙ all.2), all.3, all.4, keeps all.0)))
            (Rests-append first.0 last.0 c last.4),
      )

  pub PausesIn-same : (is_woken : Bool) (room : ℕ) (most : ℕ) (a b c : Polled S P B) → c ≡ b → PausesIn reports calls hears is_woken room most a b → PausesIn reports calls hears is_woken room most a c
  PausesIn-same is_woken room most a b c same pauses = subst (λ (x : Polled S P B). PausesIn reports calls hears is_woken room most a x) (sym same) pauses
