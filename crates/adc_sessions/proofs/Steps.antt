-- Single calls of a session, and calls one after another.
use Rattle.std.proofs.Common.{◌≡◌, ◌≢◌, ◌≤◌, ◌<◌, length-take, ◌+◌, ◌-◌, take, drop, take_all, length-drop, drop-drop, take-append-drop, ◌++◌, ℕ, Bool, leb, true, false, true≢false, List, [], ◌∷◌, length, Some, refl, sym, ap, subst, ◌∙◌, append_assoc, append-nil, length-append, arith}
use Rattle.std.proofs.lemmas.List.Elements.{All-nil, All-cons}
use Rattle.hub_rules.specs.declared.history.Verdict.{Verdict}
use Rattle.outboxes.specs.declared.taken.Taken.{Taken}
use Rattle.adc_line.specs.Frames.{lf, HasNoLf}
use Rattle.adc_line.specs.Stream.{lines, IsLine}
use Rattle.adc_line.proofs.FrameLemmas.{lines-more}
use Rattle.adc_sessions.specs.declared.ending.End.{End}
use Rattle.adc_sessions.specs.declared.ending.End.TheVariants as ends
use Rattle.adc_sessions.specs.Events.{StreamCall, PortCall, Event, read, met_end, read_failed, wrote, write_failed, handed, took, refused, on_stream, on_port, Runs, most_read, over_by, HasNoFault, StopsAtFault, EndsWith}
use Rattle.adc_sessions.specs.Machine.{State, Step, Moves, MovesIn, EndsAs, FinishesIn, Gives}

-- what runs from one state to another, and on from there
pub Runs-append : {A C : Type 0} (step : A → C → A → Type 0) (first last : List C) (a b c : A) → Runs step a first b → Runs step b last c → Runs step a (first ++ last) c
Runs-append {A} step [] last a b c p q = subst (λ (x : A). Runs step x last c) (sym p) q
Runs-append step (call ∷ first) last a b c p q = (p.0, p.1, Runs-append step first last p.0 b c p.2 q)

pub HasNoFault-append : (before events : List Event) → HasNoFault before → HasNoFault events → HasNoFault (before ++ events)
HasNoFault-append [] events first second = second
HasNoFault-append (event ∷ before) events first second = (first.0, HasNoFault-append before events first.1 second)

pub StopsAtFault-append : (before events : List Event) → HasNoFault before → StopsAtFault events → StopsAtFault (before ++ events)
StopsAtFault-append [] events first second = second
StopsAtFault-append (event ∷ before) events first second = (λ fault. absurd (first.0 fault), StopsAtFault-append before events first.1 second)

module _ {S P : Type 0} (reports : S → StreamCall → S → Type 0) (calls : P → PortCall → P → Type 0) where
  pub did_read : (x y : State S P) (bytes : List ℕ) → reports x.stream (read bytes) y.stream → y.port ≡ x.port → y.unread ≡ x.unread ++ bytes → y.pending ≡ x.pending → y.met ≡ x.met → y.told ≡ x.told → y.over ≡ x.over → y.owes ≡ x.owes → x.over ≡ false → length bytes ≤ most_read → Step reports calls x (on_stream (read bytes)) y
  did_read x y bytes step port unread pending met last over owes hearing few = record {
    happened = (step, port);
    lines_kept = sym unread;
    bytes_kept = append-nil x.pending ∙ sym pending;
    are_lines = All-nil IsLine;
    reads_few = few;
    met_kept = met;
    told_kept = last;
    over_kept = over;
    owes_kept = owes;
    is_written = λ is. absurd is;
    hears = λ was. absurd (true≢false (sym was ∙ hearing));
  }

  pub did_meet_end : (x y : State S P) → reports x.stream met_end y.stream → y.port ≡ x.port → y.unread ≡ x.unread → y.pending ≡ x.pending → y.met ≡ true → y.told ≡ x.told → y.over ≡ x.over → y.owes ≡ true → x.over ≡ false → Step reports calls x (on_stream met_end) y
  did_meet_end x y step port unread pending met last over owes hearing = record {
    happened = (step, port);
    lines_kept = append-nil x.unread ∙ sym unread;
    bytes_kept = append-nil x.pending ∙ sym pending;
    are_lines = All-nil IsLine;
    reads_few = omega arith;
    met_kept = met;
    told_kept = last;
    over_kept = over;
    owes_kept = owes;
    is_written = λ is. absurd is;
    hears = λ was. absurd (true≢false (sym was ∙ hearing));
  }

  pub did_fail_to_read : (x y : State S P) → reports x.stream read_failed y.stream → y.port ≡ x.port → y.unread ≡ x.unread → y.pending ≡ x.pending → y.met ≡ x.met → y.told ≡ x.told → y.over ≡ x.over → y.owes ≡ x.owes → x.over ≡ false → Step reports calls x (on_stream read_failed) y
  did_fail_to_read x y step port unread pending met last over owes hearing = record {
    happened = (step, port);
    lines_kept = append-nil x.unread ∙ sym unread;
    bytes_kept = append-nil x.pending ∙ sym pending;
    are_lines = All-nil IsLine;
    reads_few = omega arith;
    met_kept = met;
    told_kept = last;
    over_kept = over;
    owes_kept = owes;
    is_written = λ is. absurd is;
    hears = λ was. absurd (true≢false (sym was ∙ hearing));
  }

  pub did_write : (x y : State S P) (bytes : List ℕ) → reports x.stream (wrote bytes) y.stream → y.port ≡ x.port → y.unread ≡ x.unread → x.pending ≡ bytes ++ y.pending → y.met ≡ x.met → y.told ≡ x.told → y.over ≡ x.over → y.owes ≡ x.owes → Step reports calls x (on_stream (wrote bytes)) y
  did_write x y bytes step port unread pending met last over owes = record {
    happened = (step, port);
    lines_kept = append-nil x.unread ∙ sym unread;
    bytes_kept = append-nil x.pending ∙ pending;
    are_lines = All-nil IsLine;
    reads_few = omega arith;
    met_kept = met;
    told_kept = last;
    over_kept = over;
    owes_kept = owes;
    is_written = λ is. absurd is;
    hears = λ was. tt {0};
  }

  pub did_fail_to_write : (x y : State S P) → reports x.stream write_failed y.stream → y.port ≡ x.port → y.unread ≡ x.unread → y.pending ≡ x.pending → y.met ≡ x.met → y.told ≡ x.told → y.over ≡ x.over → y.owes ≡ x.owes → Step reports calls x (on_stream write_failed) y
  did_fail_to_write x y step port unread pending met last over owes = record {
    happened = (step, port);
    lines_kept = append-nil x.unread ∙ sym unread;
    bytes_kept = append-nil x.pending ∙ sym pending;
    are_lines = All-nil IsLine;
    reads_few = omega arith;
    met_kept = met;
    told_kept = last;
    over_kept = over;
    owes_kept = owes;
    is_written = λ is. absurd is;
    hears = λ was. tt {0};
  }

  pub did_hand : (x y : State S P) (line : List ℕ) (verdict : Verdict) → calls x.port (handed line verdict) y.port → y.stream ≡ x.stream → x.unread ≡ line ++ lf ∷ y.unread → IsLine line → y.pending ≡ x.pending → y.met ≡ x.met → y.told ≡ x.told → y.over ≡ over_by x.over (on_port (handed line verdict)) → y.owes ≡ true → x.pending ≡ [] → x.over ≡ false → Step reports calls x (on_port (handed line verdict)) y
  did_hand x y line verdict step stream unread is pending met last over owes none hearing = record {
    happened = (step, stream);
    lines_kept = append-nil x.unread ∙ unread ∙ sym (append_assoc line (lf ∷ []) y.unread) ∙ ap (λ front. front ++ y.unread) (sym (append-nil (line ++ lf ∷ [])));
    bytes_kept = append-nil x.pending ∙ sym pending;
    are_lines = All-cons IsLine line [] is (All-nil IsLine);
    reads_few = omega arith;
    met_kept = met;
    told_kept = last;
    over_kept = over;
    owes_kept = owes;
    is_written = λ is. none;
    hears = λ was. absurd (true≢false (sym was ∙ hearing));
  }

  pub did_take : (x y : State S P) (count : ℕ) (bytes : List ℕ) (taken : Taken) → calls x.port (took count bytes taken) y.port → y.stream ≡ x.stream → y.unread ≡ x.unread → y.pending ≡ x.pending ++ bytes → y.met ≡ x.met → y.told ≡ Some taken → y.over ≡ x.over → y.owes ≡ leb count taken.lines → x.pending ≡ [] → Step reports calls x (on_port (took count bytes taken)) y
  did_take x y count bytes taken step stream unread pending met last over owes none = record {
    happened = (step, stream);
    lines_kept = append-nil x.unread ∙ sym unread;
    bytes_kept = sym pending;
    are_lines = All-nil IsLine;
    reads_few = omega arith;
    met_kept = met;
    told_kept = last;
    over_kept = over;
    owes_kept = owes;
    is_written = λ is. none;
    hears = λ was. tt {0};
  }

  pub was_refused : (x y : State S P) → calls x.port refused y.port → y.stream ≡ x.stream → y.unread ≡ x.unread → y.pending ≡ x.pending → y.met ≡ x.met → y.told ≡ x.told → y.over ≡ x.over → y.owes ≡ true → x.pending ≡ [] → Step reports calls x (on_port refused) y
  was_refused x y step stream unread pending met last over owes none = record {
    happened = (step, stream);
    lines_kept = append-nil x.unread ∙ sym unread;
    bytes_kept = append-nil x.pending ∙ sym pending;
    are_lines = All-nil IsLine;
    reads_few = omega arith;
    met_kept = met;
    told_kept = last;
    over_kept = over;
    owes_kept = owes;
    is_written = λ is. none;
    hears = λ was. tt {0};
  }

  pub Moves-append : (before events : List Event) (x y z : State S P) → Moves reports calls x before y → Moves reports calls y events z → Moves reports calls x (before ++ events) z
  Moves-append = Runs-append (Step reports calls)

pub EndsWith-append : {A : Type 0} (last : A) (before all : List A) → EndsWith last all → EndsWith last (before ++ all)
EndsWith-append last before all ends = (before ++ ends.0, ap (λ es. before ++ es) ends.1 ∙ sym (append_assoc before ends.0 (last ∷ [])))

pub EndsAs-append : {S P : Type 0} (end : End) (before events : List Event) (z : State S P) → EndsAs end events z → EndsAs end (before ++ events) z
EndsAs-append ends.Closed before events z is = is
EndsAs-append ends.Ended before events z is = is
EndsAs-append ends.ReadFailed before events z is = (is.0, EndsWith-append (on_stream read_failed) before events is.1)
EndsAs-append ends.WriteFailed before events z is = EndsWith-append (on_stream write_failed) before events is
EndsAs-append ends.TooLong before events z is = is
EndsAs-append ends.Memory before events z is = is

module _ {S P : Type 0} (reports : S → StreamCall → S → Type 0) (calls : P → PortCall → P → Type 0) where
  pub FinishesIn-append : (n m most : ℕ) (x y : State S P) (end : End) (stream : S) (port : P) → n + m ≤ most → MovesIn reports calls n x y → FinishesIn reports calls m y end stream port → FinishesIn reports calls most x end stream port
  FinishesIn-append n m most x y end stream port enough first last = (
    first.0 ++ last.0,
    last.1,
    Moves-append reports calls first.0 last.0 x y last.1 first.1 last.2,
    EndsAs-append end first.0 last.0 last.1 last.3,
    last.4,
    last.5,
    omega (arith, enough, first.2, last.6, length-append first.0 last.0),
    StopsAtFault-append first.0 last.0 first.3 last.7,
  )

  -- what may come out of a later state may come out of an earlier one
  pub Gives-append : {Left : Type 0} (leaves : P → Left → Type 0) (n : ℕ) (x y : State S P) (end : End) (stream : S) (left : Left) → MovesIn reports calls n x y → Gives reports calls leaves y end stream left → Gives reports calls leaves x end stream left
  Gives-append leaves n x y end stream left first gives =
      (n + gives.0, gives.1, FinishesIn-append n gives.0 (n + gives.0) x y end stream gives.1 (omega arith) first gives.2, gives.3)

-- a write of the first bytes of what waits leaves the rest
pub written_front : (xs ys : List ℕ) (start n : ℕ) → ys ≡ xs → drop start xs ≡ take n (take (length ys - start) (drop start ys)) ++ drop (start + n) xs
written_front xs ys start n same =
    let all : take (length ys - start) (drop start ys) ≡ drop start xs = rw (same, take_all (length xs - start) (drop start xs) (omega (arith, length-drop start xs))) refl in
    sym (ap (λ front. take n front ++ drop (start + n) xs) all ∙ ap (λ rest. take n (drop start xs) ++ rest) (sym (drop-drop n start xs)) ∙ take-append-drop n (drop start xs))

-- something waits
pub waiting : (xs ys : List ℕ) (start : ℕ) → ys ≡ xs → start < length xs → 0 < length (take (length ys - start) (drop start ys))
waiting xs ys start same less = rw same (omega (arith, less, length-take (length xs - start) (drop start xs), length-drop start xs))

-- what waits to be written is something
pub waits_still : (xs : List ℕ) (start : ℕ) → start < length xs → drop start xs ≢ []
waits_still xs start less none = let count = ap length none in omega (arith, less, length-drop start xs, count)

-- a line came out of these bytes
pub line_was_there : (known : Bool) (bytes line : List ℕ) (rest : List (List ℕ)) → (known ≡ false → HasNoLf bytes) → lines bytes ≡ line ∷ rest → known ≡ true
line_was_there true bytes line rest none is = refl
line_was_there false bytes line rest none is =
    let no_line : lines bytes ≡ [] = lines-more bytes (none refl) in
    cc
