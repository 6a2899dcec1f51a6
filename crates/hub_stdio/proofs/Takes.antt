-- Takes whose bytes are written keep a run under way.
use Rattle.std.proofs.Common.{◌≡◌, ◌∙◌, sym, ap, subst, ℕ, ◌+◌, ◌<◌, Bool, List, [], ◌∷◌, ◌++◌, length, map, arith, append-nil, append_assoc}
use Rattle.std.specs.Prelude.{Option}
use Rattle.std.specs.List.{concat}
use Rattle.std.specs.Io.KnownBytes.{Appends}
use Rattle.std.proofs.KnownBytes.{Appends-trans}
use Rattle.outboxes.specs.Backlogs.{Backlog}
use Rattle.hub_core.specs.CoreState.{CoreState}
use Rattle.hub_core.specs.Moves.{Moves}
use Rattle.hub_core.specs.Backlogs.{backlog_of}
use Rattle.hub_core.specs.State.{IsSeated, Stands}
use Rattle.hub_rules.specs.declared.history.Call.TheVariants.{Take}
use Rattle.hub_rules.specs.declared.history.Entry.{Entry}
use Rattle.hub_rules.specs.declared.history.Reply.TheVariants.{Took}
use Rattle.hub_rules.specs.Configured.{Configured}
use Rattle.hub_rules.specs.Facts.{facts}
use Rattle.hub_rules.specs.Shares.{waiting}
use Rattle.counted_io.specs.Parts.{AppendsFront}
use Rattle.hub_stdio.specs.Runs.{first}
use Rattle.hub_stdio.specs.Serving.{IsAlone, Run, IsUnderWay, IsRunning, IsCutOff, about_first, at_history, taken_in, CatchesUp, FallsShort}
use Rattle.hub_stdio.proofs.Steps.{has-seat, took, take_alone, take_written, take_asked, take_over, take_waits, take_all_waiting, taken-front}

-- whatever run was under way is so
abbrev pub TakesOn : CoreState → CoreState → Option (List ℕ) → Option (List ℕ) → Type 0
TakesOn old new before now =
    (setup : Configured) (hash : List ℕ → List ℕ) (run : Run) → IsUnderWay setup hash run old before
    → (h : List Entry) × IsUnderWay setup hash (at_history run h) new now

-- some run is under way
abbrev pub SomeRuns : CoreState → Option (List ℕ) → Type 0
SomeRuns core holds = (setup : Configured) × (hash : List ℕ → List ℕ) × IsRunning setup hash core holds

pub takes-none : (core : CoreState) (holds : Option (List ℕ)) → TakesOn core core holds holds
takes-none core holds setup hash run way = (run.history, way)

-- a run that is under way stays so
pub takes_running : (old new : CoreState) (before now : Option (List ℕ)) → SomeRuns old before → TakesOn old new before now → SomeRuns new now
takes_running old new before now running takes =
    let next = takes running.0 running.1 running.2.0 running.2.1 in (running.0, running.1, (at_history running.2.0 next.0, next.1))

-- the connection has a seat
pub running_seated : (core : CoreState) (holds : Option (List ℕ)) (connection : ℕ) → connection ≡ first → SomeRuns core holds → IsSeated connection core
running_seated core holds connection is_first running =
    subst (λ (c : ℕ). IsSeated c core) (sym is_first) (has-seat running.0 running.1 running.2.0.history core running.2.1.alone)

-- a run that is under way, cut off
pub cut_off : (setup : Configured) (hash : List ℕ → List ℕ) (run : Run) (core : CoreState) (holds : Option (List ℕ))
    → IsUnderWay setup hash run core holds → IsCutOff setup hash run.held run.sent run.history holds
cut_off setup hash run core holds way = record {
  history = record { legal = way.alone.stands.legal; own = way.alone.own };
  calls = (run.sent, [], sym (append-nil run.sent), way.calls);
  in_turn = way.in_turn;
  written = (taken_in setup hash run.history, _, taken-front (about_first setup hash run.history), way.written);
}

-- whatever run was under way was cut off
abbrev pub AllShort : CoreState → Option (List ℕ) → Option (List ℕ) → Type 0
AllShort old before now = (setup : Configured) (hash : List ℕ → List ℕ) → FallsShort setup hash old before now

pub takes_short : (old new : CoreState) (before now : Option (List ℕ)) → TakesOn old new before now → AllShort old before now
takes_short old new before now takes setup hash run way =
    let next = takes setup hash run way in (next.0, cut_off setup hash (at_history run next.0) new now next.1)

-- a take of connection c, whichever its number is
module _ (old mid new : CoreState) (before now later : Option (List ℕ)) (connection count : ℕ) (bytes : List ℕ) (lines : ℕ) (ended : Bool)
    (is_first : connection ≡ first) (takes : TakesOn old mid before now) (moves : Moves mid (Take connection count) (Took bytes lines ended) new) where
  moved : Moves mid (Take first count) (Took bytes lines ended) new
  moved = subst (λ (c : ℕ). Moves mid (Take c count) (Took bytes lines ended) new) is_first moves

  -- its bytes were written
  pub takes-more : Appends now later bytes → TakesOn old new before later
  takes-more wrote setup hash run way =
      let next = takes setup hash run way in
      let h = next.0 in
      let alone = next.1.alone in (
        took count bytes lines ended ∷ h,
        record {
          alone = take_alone setup hash h mid new alone count bytes lines ended moved;
          calls = take_asked setup hash h mid new alone count bytes lines ended moved ∙ next.1.calls;
          in_turn = (tt, next.1.in_turn);
          written = subst (λ (xs : List ℕ). Appends run.held later xs) (sym (take_written setup hash h mid new alone count bytes lines ended moved))
              (Appends-trans run.held now later _ _ next.1.written wrote);
        },
      )

  -- and it gave all that waited
  pub takes-all : Appends now later bytes → lines < count → (setup : Configured) (hash : List ℕ → List ℕ) → CatchesUp setup hash ended old new before later
  unfolding takes-more
  takes-all wrote few setup hash run way =
      let last = takes-more wrote setup hash run way in
      let next = takes setup hash run way in (
        last.0,
        last.1,
        take_all_waiting setup hash next.0 mid new next.1.alone count bytes lines ended moved few,
        take_over setup hash next.0 mid new next.1.alone count bytes lines ended moved,
      )

  -- only their front was written
  pub takes-part : AppendsFront now later bytes → AllShort old before later
  takes-part wrote setup hash run way =
      let next = takes setup hash run way in
      let h = next.0 in
      let whole = taken-front (about_first setup hash (took count bytes lines ended ∷ h)) in
      let waits = concat (waiting (about_first setup hash (took count bytes lines ended ∷ h))) in
      let taken = taken_in setup hash h in (
        took count bytes lines ended ∷ h,
        record {
          history = record {
            legal = (take_alone setup hash h mid new next.1.alone count bytes lines ended moved).stands.legal;
            own = (take_alone setup hash h mid new next.1.alone count bytes lines ended moved).own;
          };
          calls = (run.sent, [], sym (append-nil run.sent), take_asked setup hash h mid new next.1.alone count bytes lines ended moved ∙ next.1.calls);
          in_turn = (tt, next.1.in_turn);
          written = (
            taken ++ wrote.0,
            wrote.1 ++ waits,
            whole ∙ ap (λ xs. xs ++ waits) (take_written setup hash h mid new next.1.alone count bytes lines ended moved ∙ ap (λ xs. taken ++ xs) wrote.2) ∙ simp append_assoc,
            Appends-trans run.held now later _ _ next.1.written wrote.3,
          );
        },
      )

-- how many lines wait for the first connection
abbrev pub first_waits : List Backlog → ℕ
first_waits [] = 0
first_waits (backlog ∷ backlogs) = length backlog.lines

-- which are those that wait for the connection
waits_is : (setup : Configured) (hash : List ℕ → List ℕ) (h : List Entry) (core : CoreState) → IsAlone setup hash h core → first_waits core.backlogs ≡ length (waiting (about_first setup hash h))
unfolding Stands
waits_is setup hash h core alone =
    ap (λ (c : CoreState). first_waits c.backlogs) alone.stands.stands
    ∙ ap (λ opened. first_waits (map (λ c. backlog_of ((facts setup hash h).about c)) opened)) alone.opened

-- a take of some leaves fewer
pub fewer_wait : (old new : CoreState) (holds : Option (List ℕ)) (connection count : ℕ) (bytes : List ℕ) (lines : ℕ) (ended : Bool)
    → connection ≡ first → SomeRuns old holds → Moves old (Take connection count) (Took bytes lines ended) new → 0 < lines
    → first_waits new.backlogs < first_waits old.backlogs
fewer_wait old new holds connection count bytes lines ended is_first running moves some =
    let setup = running.0 in
    let hash = running.1 in
    let h = running.2.0.history in
    let alone = running.2.1.alone in
    let same : Moves old (Take first count) (Took bytes lines ended) new = subst (λ (c : ℕ). Moves old (Take c count) (Took bytes lines ended) new) is_first moves in
    let before : first_waits old.backlogs ≡ length (waiting (about_first setup hash h)) = waits_is setup hash h old alone in
    let now : first_waits new.backlogs ≡ length (waiting (about_first setup hash (took count bytes lines ended ∷ h))) =
    waits_is setup hash (took count bytes lines ended ∷ h) new (take_alone setup hash h old new alone count bytes lines ended same) in
    let gone : length (waiting (about_first setup hash (took count bytes lines ended ∷ h))) + lines ≡ length (waiting (about_first setup hash h)) =
    take_waits setup hash h old new alone count bytes lines ended same in
    omega arith

-- an empty vector holds what was appended to it
pub only_appended : (empty filled seen bytes : List ℕ) → empty ≡ [] → filled ≡ empty ++ bytes → seen ≡ filled → seen ≡ bytes
only_appended empty filled seen bytes none more same = same ∙ more ∙ ap (λ xs. xs ++ bytes) none
