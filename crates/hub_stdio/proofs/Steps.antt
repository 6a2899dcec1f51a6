-- The calls of the one caller, as entries of its history.
use Rattle.hub_invariants.proofs.CallCases.{parts}
use Rattle.std.proofs.Common.{◌≡◌, ◌∙◌, sym, ap, ap₂, refl, subst, ℕ, ◌+◌, ◌<◌, ◌≤◌, Bool, true, false, ◌&&◌, ◌||◌, List, [], ◌∷◌, ◌++◌, length, take, drop, map, arith, append-nil, length-take, length-drop, inl, inr}
use Rattle.std.proofs.lemmas.Bool.{false≢true}
use Rattle.std.proofs.lemmas.List.{take-append-le, take-append-drop}
use Rattle.std.proofs.lemmas.List.Elements.{All-cons}
use Rattle.std.proofs.lemmas.List.Folds.{concat-append}
use Rattle.std.specs.List.{All, concat, list_any}
use Rattle.std.specs.Prelude.{◌==◌, ◌⊎◌, cond}
use Rattle.hub_core.specs.CoreState.{CoreState}
use Rattle.hub_core.specs.Moves.{LineMoves, Moves, StandsAt, entry}
use Rattle.hub_core.specs.Seats.{seat_of}
use Rattle.hub_core.specs.State.{IsSeated, Stands}
use Rattle.hub_rules.specs.declared.effect.Effect.{Effect}
use Rattle.hub_rules.specs.declared.history.Call.{Call}
use Rattle.hub_rules.specs.declared.history.Call.TheVariants.{Take}
use Rattle.hub_rules.specs.declared.history.Entry.{Entry}
use Rattle.hub_rules.specs.declared.history.Reply.{Reply}
use Rattle.hub_rules.specs.declared.history.Reply.TheVariants.{Said, Took}
use Rattle.hub_rules.specs.declared.history.Verdict.{Verdict}
use Rattle.hub_rules.specs.Configured.{Configured}
use Rattle.hub_rules.specs.Effects.{is_over}
use Rattle.hub_rules.specs.Facts.{Facts, after, effect_of_line, facts, with_lines_taken, happens}
use Rattle.hub_rules.specs.Legal.{Legal, has_ended, is_open, reply}
use Rattle.hub_rules.specs.Prepared.{prepared_line}
use Rattle.hub_rules.specs.Shares.{ConnState, affected_connection, has_room, owed_with, owes, waiting}
use Rattle.hub_rules.specs.Views.{PreparedLine}
use Rattle.hub_invariants.proofs.Calls.{sound_of}
use Rattle.hub_invariants.proofs.Kept.{given-bytes}
use Rattle.login_state.specs.declared.stage.Stage.{Stage}
use Rattle.login_state.specs.declared.stage.Stage.TheVariants as stages
use Rattle.hub_stdio.specs.Runs.{first, says, zeros, asked_in, IsAllWritten, IsOver}
use Rattle.hub_stdio.specs.Serving.{IsAlone, about_first, taken_in}

-- ---- one connection

both : (a b : Bool) → (a && b) ≡ true → b ≡ true
both true b e = e
both false b e = absurd (false≢true e)

-- nothing more comes where the connection was shut out or lags
only_over : (stage : Stage) (lags : Bool) → (is_over stage || lags) ≡ true → (stage ≡ stages.Gone) ⊎ (lags ≡ true)
only_over stages.Protocol lags e = inr e
only_over stages.Identify lags e = inr e
only_over stages.Verify lags e = inr e
only_over stages.Normal lags e = inr e
only_over stages.Gone lags e = inl refl

-- what an effect leaves of a connection: its owner, its challenge, and what was taken
pub record IsKept (a b : ConnState) : Type 0 where
  pub owner : b.owner ≡ a.owner
  pub challenge : b.sender.challenge ≡ a.sender.challenge
  pub taken : take b.taken b.owed ≡ take a.taken a.owed

taken-kept : (room : Bool) (taken : ℕ) (owed share : List (List ℕ)) → taken ≤ length owed → take taken (cond room (owed ++ share) owed) ≡ take taken owed
taken-kept true taken owed share within = take-append-le taken owed share within
taken-kept false taken owed share within = refl

affected-kept : (effect : Effect) (a : ConnState) → a.taken ≤ length a.owed → IsKept a (affected_connection true effect a)
unfolding owed_with
affected-kept effect a within =
    subst (IsKept a) (sym (parts true effect a))
    (record { owner = refl; challenge = refl; taken = taken-kept (has_room a (owes true effect a)) a.taken a.owed (owes true effect a) within })

-- a take that gave fewer lines than it might leaves none
given-all : (count : ℕ) (a : ConnState) → a.taken ≤ length a.owed → length (take count (waiting a)) < count → (with_lines_taken count a).taken ≡ length (with_lines_taken count a).owed
given-all count a h few = omega (arith, length-take count (drop a.taken a.owed), length-drop a.taken a.owed)

-- so many wait no more
given-waits : (count : ℕ) (a : ConnState) → length (waiting (with_lines_taken count a)) + length (take count (waiting a)) ≡ length (waiting a)
given-waits count a =
    omega (arith, length-take count (drop a.taken a.owed), length-drop a.taken a.owed, length-drop (a.taken + length (take count (drop a.taken a.owed))) a.owed)

-- what is owed begins with what was taken
pub taken-front : (a : ConnState) → concat a.owed ≡ concat (take a.taken a.owed) ++ concat (drop a.taken a.owed)
taken-front a = ap concat (sym (take-append-drop a.taken a.owed)) ∙ concat-append (take a.taken a.owed) (drop a.taken a.owed)

-- the connection has a seat
pub has-seat : (setup : Configured) (hash : List ℕ → List ℕ) (h : List Entry) (core : CoreState) → IsAlone setup hash h core → IsSeated first core
unfolding Stands
has-seat setup hash h core alone =
    ap (λ (c : CoreState). list_any (λ seat. seat.number == first) c.seats) alone.stands.stands
    ∙ ap (λ opened. list_any (λ seat. seat.number == first) (map (seat_of (facts setup hash h).about) opened)) alone.opened

-- the connection is open
open_first : (f : Facts) → f.opened ≡ first ∷ [] → is_open first f ≡ true
open_first f e = ap (λ opened. list_any (λ d. d == first) opened) e

-- a prepared line is of its bytes
pub prepared-bytes : (setup : Configured) (hash : List ℕ → List ℕ) (challenge bytes : List ℕ) → (prepared_line setup hash challenge bytes).bytes ≡ bytes
unfolding prepared_line
prepared-bytes setup hash challenge bytes = refl

-- the caller takes lines
abbrev pub took : ℕ → List ℕ → ℕ → Bool → Entry
took count bytes lines ended = entry first (Take first count) (Took bytes lines ended)

-- the caller sends a line
abbrev pub said_entry : List ℕ → Verdict → Entry
said_entry line verdict = entry first (says line) (Said verdict)

module _ (setup : Configured) (hash : List ℕ → List ℕ) (h : List Entry) (old new : CoreState) (alone : IsAlone setup hash h old) where
  -- the history with a call more is that of the one caller
  own_more : (call : Call) (answer : Reply) → All (λ (e : Entry). e.caller ≡ first) (entry first call answer ∷ h)
  own_more call answer = All-cons (λ (e : Entry). e.caller ≡ first) (entry first call answer) h refl alone.own

  -- no more was taken than was owed
  within : (about_first setup hash h).taken ≤ length (about_first setup hash h).owed
  within = (sound_of setup hash h).taken first

  -- after a take
  module _ (count : ℕ) (bytes : List ℕ) (lines : ℕ) (ended : Bool) (moves : Moves old (Take first count) (Took bytes lines ended) new) where
    stands_taken : StandsAt setup hash (took count bytes lines ended ∷ h) new
    stands_taken = moves setup hash h first alone.stands (open_first (facts setup hash h) alone.opened, alone.owner)

    about_taken : about_first setup hash (took count bytes lines ended ∷ h) ≡ with_lines_taken count (about_first setup hash h)
    unfolding facts after
    about_taken = refl

    opened_taken : (facts setup hash (took count bytes lines ended ∷ h)).opened ≡ (facts setup hash h).opened
    unfolding facts after
    opened_taken = refl

    answer_taken : Took bytes lines ended ≡ reply setup hash (facts setup hash h) first (Take first count)
    unfolding Legal
    answer_taken = stands_taken.legal.2

    pub bytes_taken : bytes ≡ concat (take count (waiting (about_first setup hash h)))
    unfolding reply
    bytes_taken = cc answer_taken

    pub lines_taken : lines ≡ length (take count (waiting (about_first setup hash h)))
    unfolding reply
    lines_taken = cc answer_taken

    ended_taken : ended ≡ has_ended count (about_first setup hash h)
    unfolding reply
    ended_taken = cc answer_taken

    pub take_alone : IsAlone setup hash (took count bytes lines ended ∷ h) new
    take_alone = record {
      stands = stands_taken;
      own = own_more (Take first count) (Took bytes lines ended);
      opened = opened_taken ∙ alone.opened;
      owner = ap (λ (a : ConnState). a.owner) about_taken ∙ alone.owner;
      challenge = ap (λ (a : ConnState). a.sender.challenge) about_taken ∙ alone.challenge;
    }

    pub take_written : taken_in setup hash (took count bytes lines ended ∷ h) ≡ taken_in setup hash h ++ bytes
    take_written =
        ap (λ (a : ConnState). concat (take a.taken a.owed)) about_taken ∙ given-bytes count (about_first setup hash h)
        ∙ ap (λ xs. taken_in setup hash h ++ xs) (sym bytes_taken)

    pub take_asked : asked_in (took count bytes lines ended ∷ h) ≡ asked_in h
    take_asked = append-nil (asked_in h)

    -- where the take says that it has ended, nothing more will come
    pub take_over : ended ≡ true → IsOver setup hash (took count bytes lines ended ∷ h)
    take_over is =
        subst (λ (a : ConnState). (a.stage ≡ stages.Gone) ⊎ (a.lags ≡ true)) (sym about_taken)
        (only_over (about_first setup hash h).stage (about_first setup hash h).lags (both _ _ (sym ended_taken ∙ is)))

    -- so many wait no more
    pub take_waits : length (waiting (about_first setup hash (took count bytes lines ended ∷ h))) + lines ≡ length (waiting (about_first setup hash h))
    take_waits =
        subst (λ (a : ConnState). length (waiting a) + lines ≡ length (waiting (about_first setup hash h))) (sym about_taken)
        (subst (λ (n : ℕ). length (waiting (with_lines_taken count (about_first setup hash h))) + n ≡ length (waiting (about_first setup hash h))) (sym lines_taken)
        (given-waits count (about_first setup hash h)))

    -- fewer lines than were asked for were the last
    pub take_all_waiting : lines < count → IsAllWritten setup hash (took count bytes lines ended ∷ h)
    take_all_waiting few =
        subst (λ (a : ConnState). a.taken ≡ length a.owed) (sym about_taken)
        (given-all count (about_first setup hash h) within (subst (λ (n : ℕ). n < count) lines_taken few))

  -- after a line that was made ready for the connection
  module _ (bytes : List ℕ) (line : PreparedLine) (verdict : Verdict) (ready : line ≡ prepared_line setup hash zeros bytes) (moves : LineMoves old first line 0 verdict new) where
    same_bytes : line.bytes ≡ bytes
    same_bytes = ap (λ (l : PreparedLine). l.bytes) ready ∙ prepared-bytes setup hash zeros bytes

    is_ready : line ≡ prepared_line setup hash (about_first setup hash h).sender.challenge line.bytes
    is_ready = ready ∙ ap₂ (prepared_line setup hash) (sym alone.challenge) (sym same_bytes)

    stands_said : StandsAt setup hash (said_entry bytes verdict ∷ h) new
    stands_said =
        subst (λ (xs : List ℕ). StandsAt setup hash (said_entry xs verdict ∷ h) new) same_bytes
        (moves setup hash h first alone.stands (open_first (facts setup hash h) alone.opened, alone.owner) is_ready)

    -- what the line leads to
    abbrev effect_said : Effect
    effect_said = effect_of_line setup hash (facts setup hash h) first bytes 0

    about_said : about_first setup hash (said_entry bytes verdict ∷ h) ≡ affected_connection true effect_said (about_first setup hash h)
    unfolding facts after happens
    about_said = refl

    opened_said : (facts setup hash (said_entry bytes verdict ∷ h)).opened ≡ (facts setup hash h).opened
    unfolding facts after happens
    opened_said = refl

    kept_said : IsKept (about_first setup hash h) (about_first setup hash (said_entry bytes verdict ∷ h))
    kept_said = subst (λ (a : ConnState). IsKept (about_first setup hash h) a) (sym about_said) (affected-kept effect_said (about_first setup hash h) within)

    pub line_alone : IsAlone setup hash (said_entry bytes verdict ∷ h) new
    line_alone = record {
      stands = stands_said;
      own = own_more (says bytes) (Said verdict);
      opened = opened_said ∙ alone.opened;
      owner = kept_said.owner ∙ alone.owner;
      challenge = kept_said.challenge ∙ alone.challenge;
    }

    -- nothing is taken by it
    pub line_written : taken_in setup hash (said_entry bytes verdict ∷ h) ≡ taken_in setup hash h
    line_written = ap concat kept_said.taken
