-- The lines of a run after some reads.
use Rattle.std.proofs.Common.{◌≡◌, ◌∙◌, sym, ap, refl, subst, ℕ, ◌+◌, ◌<◌, ◌≤◌, Bool, true, false, zero-le, List, [], ◌∷◌, ◌++◌, length, take, map, arith, append-nil, append_assoc, take_all, length-append, length-take, inl, inr}
use Rattle.std.specs.Prelude.{Option, ⊤}
use Rattle.std.specs.List.{concat}
use Rattle.std.specs.Io.KnownBytes.{Appends, Consumes, IsAtEnd, Keeps}
use Rattle.std.proofs.KnownBytes.{Appends-nil, Consumes-nil, Consumes-trans, Consumes-kept}
use Rattle.std.proofs.lemmas.List.{map-append}
use Rattle.std.proofs.lemmas.List.Concat.{flat_map-append}
use Rattle.std.proofs.lemmas.List.Elements.{All-nil, All-append}
use Rattle.adc_line.specs.Frames.{is_lf}
use Rattle.adc_line.specs.Stream.{lines, joined_lines, IsLine}
use Rattle.adc_line.proofs.FrameLemmas.{lines-more}
use Rattle.counted_io.specs.Calls.{NoneFailed}
use Rattle.counted_io.specs.declared.failures.Failures.{Failures}
use Rattle.hub_core.specs.CoreState.{CoreState}
use Rattle.hub_rules.specs.declared.history.Entry.{Entry}
use Rattle.hub_rules.specs.Configured.{Configured}
use Rattle.hub_rules.specs.Facts.{facts}
use Rattle.hub_rules.specs.Legal.{Legal}
use Rattle.hub_rules.specs.Shares.{ConnState}
use Rattle.hub_stdio.specs.declared.fault.RunFault.{RunFault}
use Rattle.hub_stdio.specs.declared.fault.RunFault.TheVariants as faults
use Rattle.hub_stdio.specs.Faults.{StopsBy, most_reads, told}
use Rattle.hub_stdio.specs.Runs.{first, join, says, owed_in, IsAllWritten, IsOwn, IsOver, IsOwedWritten, IsAnsweredInPart, IsServed}
use Rattle.hub_stdio.specs.Serving.{about_first, IsUnderWay, IsIdle, IsCutInto, Starts, BreaksOff, HandlesAll, StopsHearing, WritesStop}
use Rattle.hub_stdio.proofs.Hearing.{lines_of_cut}

-- so many reads at most gave what was read; its lines were handled, and all that the connection is owed was written
pub record IsHeard (setup : Configured) (hash : List ℕ → List ℕ) (unread left held holds : Option (List ℕ)) (core : CoreState) (rest : List ℕ) (turns : ℕ) : Type 0 where
  pub read : List ℕ
  pub sent : List (List ℕ)
  pub history : List Entry
  pub consumed : Consumes unread left read
  pub way : IsUnderWay setup hash (record { held = held; sent = sent; history = history }) core holds
  pub ready : IsAllWritten setup hash history
  pub cut : IsCutInto read sent rest
  pub none : lines rest ≡ []
  pub often : turns ≤ length read

-- before the first read
pub heard_nothing : (setup : Configured) (hash : List ℕ → List ℕ) (unread held : Option (List ℕ)) (core : CoreState) (rest : List ℕ) → Starts setup hash core → rest ≡ [] → IsHeard setup hash unread unread held held core rest 0
heard_nothing setup hash unread held core rest starts empty =
    let h = starts held in
    record {
      read = [];
      sent = [];
      history = h.0;
      consumed = Consumes-nil unread;
      way = h.1;
      ready = h.2;
      cut = record { whole = sym empty; are_lines = All-nil IsLine };
      none = ap lines empty ∙ lines-more [] (All-nil (λ (b : ℕ). is_lf b ≡ false));
      often = zero-le;
    }

-- a line may begin where there is nothing
pub nothing_short : IsLine []
nothing_short = (All-nil (λ (b : ℕ). is_lf b ≡ false), zero-le)

-- what waited and was taken is all that was owed
caught_up : (a : ConnState) → a.taken ≡ length a.owed → concat (take a.taken a.owed) ≡ concat a.owed
caught_up a e = ap concat (take_all a.taken a.owed (omega arith))

module _ (setup : Configured) (hash : List ℕ → List ℕ) (unread left held holds : Option (List ℕ)) (core : CoreState) (rest : List ℕ) (turns : ℕ) (heard : IsHeard setup hash unread left held holds core rest turns) where
  pub heard_ready : IsIdle setup hash core holds
  heard_ready = (record { held = held; sent = heard.sent; history = heard.history }, heard.way, heard.ready)

  -- the lines that were sent are those of what was read
  lines_sent : lines heard.read ≡ heard.sent
  lines_sent = ap lines heard.cut.whole ∙ lines_of_cut heard.sent rest heard.cut.are_lines ∙ ap (λ xs. heard.sent ++ xs) heard.none ∙ append-nil heard.sent

  -- and behind them is the rest
  rest_heard : heard.read ≡ joined_lines (lines heard.read) ++ rest
  rest_heard = heard.cut.whole ∙ ap (λ xs. joined_lines xs ++ rest) (sym lines_sent)

  -- a read that gave nothing, or failed
  module _ (now : Option (List ℕ)) (consumed : Consumes unread now heard.read) where
    pub heard_answered : IsOwedWritten setup hash unread now held holds heard.read heard.history
    heard_answered = record {
      consumed = consumed;
      history = record { legal = heard.way.alone.stands.legal; own = heard.way.alone.own };
      calls = heard.way.calls ∙ ap (λ xs. join ∷ map says xs) (sym lines_sent);
      in_turn = heard.way.in_turn;
      written = subst (λ (xs : List ℕ). Appends held holds xs) (caught_up (about_first setup hash heard.history) heard.ready) heard.way.written;
    }

  pub heard_to_end : (now : Option (List ℕ)) (count : ℕ) (bytes : List ℕ) → count ≡ 0 → Consumes left now (take count bytes) × (count ≡ 0 → 0 < length bytes → IsAtEnd now) → 0 < length bytes → IsLine rest
      → IsServed setup hash unread now held holds
  heard_to_end now count bytes none gave room short =
      let nothing : Consumes left now [] = subst (λ (n : ℕ). Consumes left now (take n bytes)) none gave.0 in
      let consumed = subst (λ (xs : List ℕ). Consumes unread now xs) (append-nil heard.read) (Consumes-trans unread left now heard.read [] heard.consumed nothing) in
      (heard.read, heard.history, heard_answered now consumed, inl (gave.1 none room, (rest, rest_heard, short)))

  pub heard_to_failure : (now : Option (List ℕ)) → Keeps left now → (read : List ℕ) × (h : List Entry) × IsOwedWritten setup hash unread now held holds read h × ⊤
  heard_to_failure now kept = (heard.read, heard.history, heard_answered now (Consumes-kept unread left now heard.read heard.consumed kept), tt)

  pub heard_too_often : turns ≡ most_reads → (read : List ℕ) × (h : List Entry) × IsOwedWritten setup hash unread left held holds read h × (most_reads ≤ length read)
  heard_too_often e = (heard.read, heard.history, heard_answered left heard.consumed, omega (arith, heard.often))

module _ (setup : Configured) (hash : List ℕ → List ℕ) (unread left held holds : Option (List ℕ)) (core : CoreState) (rest : List ℕ) (turns : ℕ) (heard : IsHeard setup hash unread left held holds core rest turns) where
  -- after a read of a piece
  module _ (now : Option (List ℕ)) (piece : List ℕ) (gave : Consumes left now piece) where
    consumed_more : Consumes unread now (heard.read ++ piece)
    consumed_more = Consumes-trans unread left now heard.read piece heard.consumed gave

    whole_more : heard.read ++ piece ≡ joined_lines heard.sent ++ (rest ++ piece)
    whole_more = ap (λ xs. xs ++ piece) heard.cut.whole ∙ append_assoc (joined_lines heard.sent) rest piece

    lines_more : lines (heard.read ++ piece) ≡ heard.sent ++ lines (rest ++ piece)
    lines_more = ap lines whole_more ∙ lines_of_cut heard.sent (rest ++ piece) heard.cut.are_lines

    module _ (ended : Bool) (new : CoreState) (further : Option (List ℕ)) (left_over : List ℕ) (hears : HandlesAll setup hash (rest ++ piece) left_over ended core new holds further) where
      goes : (h : List Entry) × IsUnderWay setup hash (record { held = held; sent = heard.sent ++ hears.0; history = h }) new further × IsAllWritten setup hash h × (ended ≡ true → IsOver setup hash h)
      goes = hears.3 (record { held = held; sent = heard.sent; history = heard.history }) heard.way heard.ready

      pub heard_more : 0 < length piece → IsHeard setup hash unread now held further new left_over (turns + 1)
      heard_more some = record {
        read = heard.read ++ piece;
        sent = heard.sent ++ hears.0;
        history = goes.0;
        consumed = consumed_more;
        way = goes.1;
        ready = goes.2;
        cut = record {
          whole = whole_more ∙ ap (λ xs. joined_lines heard.sent ++ xs) hears.1.whole ∙ simp (flat_map-append, append_assoc);
          are_lines = All-append IsLine heard.sent hears.0 heard.cut.are_lines hears.1.are_lines;
        };
        none = hears.2;
        often = omega (arith, length-append heard.read piece, heard.often);
      }

      -- which shut the connection out
      pub heard_out : 0 < length piece → ended ≡ true → IsServed setup hash unread now held further
      unfolding goes heard_more
      heard_out some is =
          let more = heard_more some in
          (more.read, more.history, heard_answered setup hash unread now held further new left_over (turns + 1) more now more.consumed, inr (goes.3 is))

    -- which was cut off
    heard_part : (further : Option (List ℕ)) → BreaksOff setup hash (lines (rest ++ piece)) core holds further
        → (read : List ℕ) × (h : List Entry) × IsAnsweredInPart setup hash unread now held further read h
    heard_part further breaks =
        let b = breaks (record { held = held; sent = heard.sent; history = heard.history }) heard.way heard.ready in (
          heard.read ++ piece,
          b.0,
          record {
            consumed = consumed_more;
            history = b.1.history;
            calls = (
              map says b.1.calls.1,
              ap (λ xs. xs ++ map says b.1.calls.1) b.1.calls.3
                  ∙ ap (λ xs. join ∷ xs) (sym (map-append says b.1.calls.0 b.1.calls.1) ∙ ap (map says) (sym b.1.calls.2 ∙ sym lines_more)),
            );
            in_turn = b.1.in_turn;
            written = b.1.written;
          },
        )

    -- and where the writer's calls are as well as the fault says
    module _ (reads_before reads_now writes_before writes_now : Failures) (reads : NoneFailed reads_before reads_now) where
      pub heard_stopped : (fault : RunFault) (new : CoreState) (further : Option (List ℕ)) (left_over : List ℕ) → 0 < length piece
          → StopsHearing fault setup hash (rest ++ piece) left_over core new holds further → WritesStop fault writes_before writes_now
          → StopsBy fault setup hash (told unread held reads_before writes_before) (told now further reads_now writes_now)
      heard_stopped faults.Memory new further left_over some stops writes = (heard_part further stops, (reads, writes))
      heard_stopped faults.Read new further left_over some stops writes = absurd stops
      heard_stopped faults.Write new further left_over some stops writes = (heard_part further stops, (reads, writes))
      heard_stopped faults.TooLong new further left_over some stops writes =
          let more = heard_more false new further left_over stops.0 some in (
            (
              more.read,
              more.history,
              heard_answered setup hash unread now held further new left_over (turns + 1) more now more.consumed,
              (left_over, rest_heard setup hash unread now held further new left_over (turns + 1) more, stops.1, stops.2),
            ),
            (reads, writes),
          )
      heard_stopped faults.Turns new further left_over some stops writes = absurd stops

-- before the first call
before_all : (setup : Configured) (hash : List ℕ → List ℕ) → IsOwn setup hash []
unfolding Legal
before_all setup hash = record { legal = tt; own = All-nil (λ (e : Entry). e.caller ≡ first) }

nothing_owed : (setup : Configured) (hash : List ℕ → List ℕ) → owed_in setup hash [] ≡ []
unfolding facts
nothing_owed setup hash = refl

-- no hub was opened
pub never_began : (setup : Configured) (hash : List ℕ → List ℕ) (unread held : Option (List ℕ)) (reads writes : Failures)
    → StopsBy faults.Memory setup hash (told unread held reads writes) (told unread held reads writes)
never_began setup hash unread held reads writes = (
  (
    [],
    [],
    record {
      consumed = Consumes-nil unread;
      history = before_all setup hash;
      calls = (join ∷ map says (lines []), refl);
      in_turn = tt;
      written = ([], [], nothing_owed setup hash, Appends-nil held);
    },
  ),
  (refl, refl),
)

-- a read of so many bytes gave some
pub read_some : (count : ℕ) (bytes : List ℕ) → count ≤ length bytes → (count ≡ 0 → ⊥) → 0 < length (take count bytes)
read_some count bytes most some = simp length-take (omega arith)
