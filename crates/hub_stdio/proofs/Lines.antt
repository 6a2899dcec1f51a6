-- Lines that are handed over keep a run under way.
use Rattle.std.proofs.Common.{◌≡◌, ◌∙◌, sym, ap, subst, ℕ, Bool, List, [], ◌∷◌, ◌++◌, append_assoc}
use Rattle.std.specs.Prelude.{Option}
use Rattle.std.specs.Io.KnownBytes.{Appends}
use Rattle.std.proofs.lemmas.List.{map_push}
use Rattle.hub_core.specs.CoreState.{CoreState}
use Rattle.hub_core.specs.Moves.{LineMoves}
use Rattle.hub_core.specs.State.{IsSeated}
use Rattle.hub_rules.specs.declared.history.Entry.{Entry}
use Rattle.hub_rules.specs.declared.history.Verdict.{Verdict}
use Rattle.hub_rules.specs.Configured.{Configured}
use Rattle.hub_rules.specs.Prepared.{prepared_line}
use Rattle.hub_rules.specs.Views.{PreparedLine}
use Rattle.hub_stdio.specs.Runs.{first, join, says, zeros, IsAllWritten}
use Rattle.hub_stdio.specs.Serving.{Run, IsUnderWay, IsIdle, IsCutOff, run_after, CatchesUp, FallsShort, GoesOn, BreaksOff}
use Rattle.hub_stdio.proofs.Steps.{said_entry, line_alone, line_written}
use Rattle.hub_stdio.proofs.Takes.{SomeRuns, running_seated, cut_off}

module _ (setup : Configured) (hash : List ℕ → List ℕ) where
  -- a run that was cut off was so before further lines
  pub cut_before : (held : Option (List ℕ)) (due more : List (List ℕ)) (h : List Entry) (holds : Option (List ℕ))
      → IsCutOff setup hash held due h holds → IsCutOff setup hash held (due ++ more) h holds
  cut_before held due more h holds cut = record {
    history = cut.history;
    calls = (cut.calls.0, cut.calls.1 ++ more, ap (λ xs. xs ++ more) cut.calls.2 ∙ append_assoc cut.calls.0 cut.calls.1 more, cut.calls.3);
    in_turn = cut.in_turn;
    written = cut.written;
  }

  -- nothing was handed over
  pub breaks_at_once : (core : CoreState) (holds : Option (List ℕ)) (more : List (List ℕ)) → BreaksOff setup hash more core holds holds
  breaks_at_once core holds more run way ready =
      (run.history, cut_before run.held run.sent more run.history holds (cut_off setup hash run core holds way))

  -- the connection has a seat
  pub ready_seated : (core : CoreState) (holds : Option (List ℕ)) (connection : ℕ) → connection ≡ first → IsIdle setup hash core holds → IsSeated connection core
  ready_seated core holds connection is_first ready = running_seated core holds connection is_first (setup, hash, (ready.0, ready.1))

  -- a line of connection c, whichever its number is, that was made ready for it
  module _ (old mid : CoreState) (holds : Option (List ℕ)) (connection : ℕ) (bytes : List ℕ) (line : PreparedLine) (verdict : Verdict)
      (is_first : connection ≡ first) (is_ready : line ≡ prepared_line setup hash zeros bytes) (moves : LineMoves old connection line 0 verdict mid) where
    heard : LineMoves old first line 0 verdict mid
    heard = subst (λ (c : ℕ). LineMoves old c line 0 verdict mid) is_first moves

    -- the run goes on, and has not caught up
    said_way : (run : Run) → IsUnderWay setup hash run old holds → IsAllWritten setup hash run.history
        → IsUnderWay setup hash (run_after run (bytes ∷ []) (said_entry bytes verdict ∷ run.history)) mid holds
    said_way run way ready = record {
      alone = line_alone setup hash run.history old mid way.alone bytes line verdict is_ready heard;
      calls = ap (λ calls. calls ++ says bytes ∷ []) way.calls ∙ ap (λ calls. join ∷ calls) (sym (map_push says run.sent bytes));
      in_turn = (ready, way.in_turn);
      written = subst (λ (xs : List ℕ). Appends run.held holds xs) (sym (line_written setup hash run.history old mid way.alone bytes line verdict is_ready heard)) way.written;
    }

    pub said_running : IsIdle setup hash old holds → SomeRuns mid holds
    said_running ready = (setup, hash, (run_after ready.0 (bytes ∷ []) (said_entry bytes verdict ∷ ready.0.history), said_way ready.0 ready.1 ready.2))

    module _ (new : CoreState) (now : Option (List ℕ)) where
      -- what the line was owed was written
      pub said_whole : (ended : Bool) → CatchesUp setup hash ended mid new holds now → GoesOn setup hash (bytes ∷ []) ended old new holds now
      said_whole ended catches run way ready = catches (run_after run (bytes ∷ []) (said_entry bytes verdict ∷ run.history)) (said_way run way ready)

      pub said_short : FallsShort setup hash mid holds now → BreaksOff setup hash (bytes ∷ []) old holds now
      said_short short run way ready = short (run_after run (bytes ∷ []) (said_entry bytes verdict ∷ run.history)) (said_way run way ready)
