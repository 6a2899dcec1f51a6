-- What was written to the connection of a visit is the first of what it was owed.
use Rattle.std.proofs.Common.{◌≡◌, ◌∙◌, sym, ap, ap₂, refl, subst, ℕ, Bool, true, false, ◌==◌, ◌||◌, cond, List, [], ◌∷◌, ◌++◌, reverse, take, drop, append-nil, append_assoc}
use Rattle.std.specs.List.{All, concat, flat_map, list_any}
use Rattle.std.specs.Prelude.{Option, Some, None, IsSomeAnd}
use Rattle.std.proofs.lemmas.Bool.{false≢true, eq-eqb}
use Rattle.std.proofs.lemmas.List.{reverse-append, take-append-drop}
use Rattle.std.proofs.lemmas.List.Elements.{All-nil, All-cons, All-head, All-tail}
use Rattle.std.proofs.lemmas.List.Folds.{concat-append, list_any-append}
use Rattle.std.proofs.Math.Logic.{∥∥₁_map}
use Rattle.adc_sessions.specs.declared.ending.End.TheVariants as ends
use Rattle.adc_sessions.specs.Events.{StreamCall, PortCall, handed, took, refused, Event, on_stream, on_port, port_calls, all_taken, all_written, after, told_by}
use Rattle.adc_sessions.specs.Served.{IsCauseOf, wrote_all}
use Rattle.outboxes.specs.declared.taken.Taken.{Taken}
use Rattle.hub_core.specs.Moves.{entry}
use Rattle.hub_rules.specs.declared.history.Call.{Call}
use Rattle.hub_rules.specs.declared.history.Call.TheVariants.{Join, Line, Quit, Take}
use Rattle.hub_rules.specs.declared.history.Entry.{Entry}
use Rattle.hub_rules.specs.declared.history.Reply.{Reply}
use Rattle.hub_rules.specs.declared.history.Reply.TheVariants.{Joined, Full, JoinsSpent, Said, Left, Took}
use Rattle.hub_rules.specs.Configured.{Configured}
use Rattle.hub_rules.specs.Facts.{Facts, facts, has_place, has_joins}
use Rattle.hub_rules.specs.History.{lines_owed, count_taken}
use Rattle.hub_rules.specs.Legal.{Legal, join_reply, reply}
use Rattle.hub_invariants.specs.OpenConnections.{has_joined, joins_as}
use Rattle.hub_invariants.proofs.Members.{or-parts}
use Rattle.hub_invariants.proofs.Sound.{or-true}
use Rattle.hub_laws.specs.Delivery.{bytes_of_take, bytes_taken, bytes_delivered}
use Rattle.hub_laws.proofs.Delivery.{delivered_are_the_first}
use Rattle.hub_shared.specs.Connections.{entries_of}
use Rattle.hub_connections.specs.Answers.{AreAnswered}
use Rattle.hub_connections.specs.Arrivals.{Arrives}
use Rattle.hub_server.specs.ServedAll.{ServedAll}
use Rattle.hub_connections.specs.Visits.{Visit, join_refused, joined_only, served, calls_within, calls_of, IsVisit, AreVisits, HasVisited}
use Rattle.hub_connections.specs.declared.terms.Terms.{Terms}
use Rattle.hub_shared.specs.Callers.{VisitorState}
use Rattle.server_laws.specs.Written.{IsFirstOfOwed, HasBeenPaid, EachWroteTheFirst, WrittenIsOwed}
use Rattle.server_laws.proofs.Ended.{told_so, is_ended_by, has_ended_in, ended-by, all-taken}
use Rattle.server_laws.proofs.Takes.{delivered-none, delivered-more, delivered-append, JoinsOnce, joins-once, delivered-by}

-- ---- only takes give bytes

-- the bytes that the hub gave
abbrev bytes_in : Reply → List ℕ
bytes_in (Took bytes count ended) = bytes
bytes_in reply = []

abbrev Fits : Call → Reply → Type 0
Fits (Take c count) reply = Unit {0}
Fits (Join peer challenge now) reply = bytes_in reply ≡ []
Fits (Line c bytes now) reply = bytes_in reply ≡ []
Fits (Quit c) reply = bytes_in reply ≡ []

abbrev IsFit : Entry → Type 0
IsFit e = Fits e.call e.reply

join-fits : (place counted : Bool) (joins : ℕ) → bytes_in (join_reply place counted joins) ≡ []
join-fits true true joins = refl
join-fits true false joins = refl
join-fits false counted joins = refl

reply-fits : (setup : Configured) (hash : List ℕ → List ℕ) (f : Facts) (caller : ℕ) (call : Call) → Fits call (reply setup hash f caller call)
unfolding reply
reply-fits setup hash f caller (Join peer challenge now) = join-fits (has_place setup f) (has_joins f) f.joins
reply-fits setup hash f caller (Line c bytes now) = refl
reply-fits setup hash f caller (Quit c) = refl
reply-fits setup hash f caller (Take c count) = tt

all-fit : (setup : Configured) (hash : List ℕ → List ℕ) (h : List Entry) → Legal setup hash h → All IsFit h
unfolding Legal
all-fit setup hash [] legal = All-nil IsFit
all-fit setup hash (e ∷ h) legal =
    All-cons IsFit e h (subst (Fits e.call) (sym legal.2) (reply-fits setup hash (facts setup hash h) e.caller e.call)) (all-fit setup hash h legal.0)

own-fit : (p : ℕ) (e : Entry) (h : List Entry) (is : Bool) → IsFit e → All IsFit (entries_of p h) → All IsFit (cond is (e ∷ entries_of p h) (entries_of p h))
own-fit p e h true fits rest = All-cons IsFit e (entries_of p h) fits rest
own-fit p e h false fits rest = rest

all-own-fit : (p : ℕ) (h : List Entry) → All IsFit h → All IsFit (entries_of p h)
all-own-fit p [] fits = fits
all-own-fit p (e ∷ h) fits = own-fit p e h (e.caller == p) (All-head IsFit e h fits) (all-own-fit p h (All-tail IsFit e h fits))

module _ {X : Type 0} (P : X → Type 0) where
  all-first : (xs ys : List X) → All P (xs ++ ys) → All P xs
  all-first [] ys all = All-nil P
  all-first (x ∷ xs) ys all = All-cons P x xs (All-head P x (xs ++ ys) all) (all-first xs ys (All-tail P x (xs ++ ys) all))

  all-rest : (xs ys : List X) → All P (xs ++ ys) → All P ys
  all-rest [] ys all = all
  all-rest (x ∷ xs) ys all = all-rest xs ys (All-tail P x (xs ++ ys) all)

last-fits : (e : Entry) (es : List Entry) → All IsFit (reverse (e ∷ es)) → All IsFit (reverse es ++ e ∷ [])
last-fits e es fits = subst (All IsFit) (reverse-append (e ∷ []) es) fits

-- ---- what the calls of a connection give

first-delivered : (c : ℕ) (e : Entry) (es : List Entry) → bytes_delivered c (reverse (e ∷ es)) ≡ bytes_taken c e.call e.reply ++ bytes_delivered c (reverse es)
first-delivered c e es =
    ap (bytes_delivered c) (reverse-append (e ∷ []) es) ∙ delivered-append c (reverse es) (e ∷ [])
    ∙ ap (λ bs. bs ++ bytes_delivered c (reverse es)) (delivered-more c e [] ∙ ap (λ bs. bs ++ bytes_taken c e.call e.reply) (delivered-none c))

taken-is : (is : Bool) → is ≡ true → (r : Reply) → bytes_of_take is r ≡ bytes_in r
taken-is false same r = absurd (false≢true same)
taken-is true same (Joined c) = refl
taken-is true same Full = refl
taken-is true same JoinsSpent = refl
taken-is true same (Said verdict) = refl
taken-is true same Left = refl
taken-is true same (Took bytes count ended) = refl

-- the bytes that a call of the port gave
abbrev gave : PortCall → List ℕ
gave (handed line verdict) = []
gave (took count bytes taken) = bytes
gave refused = []

-- the bytes taken are those that the calls of the port gave
taken-given : (events : List Event) → all_taken events ≡ flat_map gave (port_calls events)
taken-given [] = refl
taken-given (on_stream call ∷ events) = taken-given events
taken-given (on_port (handed line verdict) ∷ events) = taken-given events
taken-given (on_port (took count bytes taken) ∷ events) = ap (λ bs. bytes ++ bs) (taken-given events)
taken-given (on_port refused ∷ events) = taken-given events

module _ (may_read : ℕ → Type 0) (p : ℕ) where
  more-delivered : (c : ℕ) (e : Entry) (later entries : List Entry) (bytes rest : List ℕ) → entries ≡ e ∷ later → bytes_taken c e.call e.reply ≡ bytes
      → bytes_delivered c (reverse later) ≡ rest → bytes_delivered c (reverse entries) ≡ bytes ++ rest
  more-delivered c e later entries bytes rest are taken given =
      ap (λ es. bytes_delivered c (reverse es)) are ∙ first-delivered c e later ∙ ap₂ ◌++◌ taken given

  pub given-delivered : (c : ℕ) (calls : List PortCall) (entries : List Entry) → AreAnswered may_read p c calls entries → bytes_delivered c (reverse entries) ≡ flat_map gave calls
  given-delivered c [] entries is = ap (λ (es : List Entry). bytes_delivered c (reverse es)) is ∙ delivered-none c
  given-delivered c (handed line verdict ∷ calls) entries is =
      more-delivered c (entry p (Line c line is.0) (Said verdict)) is.1 entries [] (flat_map gave calls) is.3 refl (given-delivered c calls is.1 is.4)
  given-delivered c (took count bytes taken ∷ calls) entries is =
      let reply = Took bytes taken.lines taken.ended in
      more-delivered c (entry p (Take c count) reply) is.0 entries bytes (flat_map gave calls) is.1 (taken-is (c == c) (eq-eqb c c refl) reply) (given-delivered c calls is.0 is.2)
  given-delivered c (refused ∷ calls) entries is = given-delivered c calls entries is

  none-is : (is : Bool) → is ≡ false → (r : Reply) → bytes_of_take is r ≡ []
  none-is true same r = absurd (false≢true (sym same))
  none-is false same r = refl

  other-delivered : (c d : ℕ) (calls : List PortCall) (entries : List Entry) → AreAnswered may_read p d calls entries → (d == c) ≡ false → bytes_delivered c (reverse entries) ≡ []
  other-delivered c d [] entries is other = ap (λ (es : List Entry). bytes_delivered c (reverse es)) is ∙ delivered-none c
  other-delivered c d (handed line verdict ∷ calls) entries is other =
      more-delivered c (entry p (Line d line is.0) (Said verdict)) is.1 entries [] [] is.3 refl (other-delivered c d calls is.1 is.4 other)
  other-delivered c d (took count bytes taken ∷ calls) entries is other =
      let reply = Took bytes taken.lines taken.ended in
      more-delivered c (entry p (Take d count) reply) is.0 entries [] [] is.1 (none-is (d == c) other reply) (other-delivered c d calls is.0 is.2 other)
  other-delivered c d (refused ∷ calls) entries is other = other-delivered c d calls entries is other

-- ---- the take that was told that nothing will follow

ended-append : (c : ℕ) (xs ys : List Entry) → has_ended_in c (xs ++ ys) ≡ (has_ended_in c xs || has_ended_in c ys)
ended-append c xs ys = list_any-append (λ (e : Entry). is_ended_by c e.call e.reply) xs ys

-- whatever stands before and behind it
ends-within : (c : ℕ) (e : Entry) (xs ys : List Entry) → is_ended_by c e.call e.reply ≡ true → has_ended_in c (reverse (xs ++ e ∷ ys)) ≡ true
ends-within c e xs ys is =
    ap (has_ended_in c) (reverse-append xs (e ∷ ys) ∙ ap (λ zs. zs ++ reverse xs) (reverse-append (e ∷ []) ys))
    ∙ ended-append c (reverse ys ++ e ∷ []) (reverse xs)
    ∙ ap (λ b. b || has_ended_in c (reverse xs))
    (ended-append c (reverse ys) (e ∷ []) ∙ ap (λ b. has_ended_in c (reverse ys) || (b || false)) is ∙ or-true (has_ended_in c (reverse ys)))

-- the call was told that nothing will follow
abbrev ends_by : PortCall → Bool
ends_by (handed line verdict) = false
ends_by (took count bytes taken) = taken.ended
ends_by refused = false

abbrev ends_in : List PortCall → Bool
ends_in = list_any ends_by

abbrev told_end : Option Taken → Bool
told_end None = false
told_end (Some taken) = taken.ended

told-before : (before : Option Taken) → IsSomeAnd before (λ taken. taken.ended ≡ true) → told_end before ≡ true
told-before None is = absurd is
told-before (Some taken) is = is

-- the last take was one of the calls
ends-among : (events : List Event) (before : Option Taken) → IsSomeAnd (after told_by before events) (λ taken. taken.ended ≡ true) → (told_end before || ends_in (port_calls events)) ≡ true
ends-among [] before is = ap (λ b. b || false) (told-before before is)
ends-among (on_stream call ∷ events) before is = ends-among events before is
ends-among (on_port (handed line verdict) ∷ events) before is = ends-among events before is
ends-among (on_port (took count bytes taken) ∷ events) before is =
    ap (λ b. told_end before || b) (ends-among events (Some taken) is) ∙ or-true (told_end before)
ends-among (on_port refused ∷ events) before is = ends-among events before is

module _ (may_read : ℕ → Type 0) (p c : ℕ) where
  one-ends : (e : Entry) (later entries : List Entry) → entries ≡ e ∷ later → is_ended_by c e.call e.reply ≡ true → has_ended_in c (reverse entries) ≡ true
  one-ends e later entries are is = ap (λ es. has_ended_in c (reverse es)) are ∙ ends-within c e [] later is

  later-ends : (e : Entry) (later entries : List Entry) → entries ≡ e ∷ later → has_ended_in c (reverse later) ≡ true → has_ended_in c (reverse entries) ≡ true
  later-ends e later entries are is =
      ap (λ es. has_ended_in c (reverse es)) are ∙ ap (has_ended_in c) (reverse-append (e ∷ []) later) ∙ ended-append c (reverse later) (e ∷ [])
      ∙ ap (λ b. b || has_ended_in c (e ∷ [])) is

  take-case : (e : Entry) (later entries : List Entry) (calls : List PortCall) → entries ≡ e ∷ later → (now : Bool) → is_ended_by c e.call e.reply ≡ now
      → (ends_in calls ≡ true → has_ended_in c (reverse later) ≡ true) → (now || ends_in calls) ≡ true → has_ended_in c (reverse entries) ≡ true
  take-case e later entries calls are true is rest ends = one-ends e later entries are is
  take-case e later entries calls are false is rest ends = later-ends e later entries are (rest ends)

  told-ended : (calls : List PortCall) (entries : List Entry) → AreAnswered may_read p c calls entries → ends_in calls ≡ true → has_ended_in c (reverse entries) ≡ true
  told-ended [] entries is ends = absurd (false≢true ends)
  told-ended (handed line verdict ∷ calls) entries is ends = later-ends (entry p (Line c line is.0) (Said verdict)) is.1 entries is.3 (told-ended calls is.1 is.4 ends)
  told-ended (took count bytes taken ∷ calls) entries is ends =
      let reply = Took bytes taken.lines taken.ended in
      take-case (entry p (Take c count) reply) is.0 entries calls is.1 taken.ended (ap (λ b. told_so b reply) (eq-eqb c c refl)) (told-ended calls is.0 is.2) ends
  told-ended (refused ∷ calls) entries is ends = told-ended calls entries is ends

-- ---- visits

joined-append : (c : ℕ) (xs ys : List Entry) → has_joined c (xs ++ ys) ≡ (has_joined c xs || has_joined c ys)
joined-append c xs ys = list_any-append (λ (e : Entry). joins_as c e.reply) xs ys

-- no more is delivered in a visit than between its join and its quit
within-delivered : (p c d : ℕ) (peer challenge : List ℕ) (now : ℕ) (between : List Entry) → bytes_delivered c (calls_within p peer challenge now d between) ≡ bytes_delivered c between
within-delivered p c d peer challenge now between =
    let join = entry p (Join peer challenge now) (Joined d) in
    delivered-more c (entry p (Quit d) Left) (between ++ join ∷ []) ∙ append-nil (bytes_delivered c (between ++ join ∷ []))
    ∙ delivered-append c between (join ∷ [])
    ∙ ap (λ bs. bs ++ bytes_delivered c between) (delivered-more c join [] ∙ append-nil (bytes_delivered c []) ∙ delivered-none c)

within-joined : (p c d : ℕ) (peer challenge : List ℕ) (now : ℕ) (between : List Entry) → has_joined c (calls_within p peer challenge now d between) ≡ (has_joined c between || ((d == c) || false))
within-joined p c d peer challenge now between = joined-append c between (entry p (Join peer challenge now) (Joined d) ∷ [])

-- as another connection nobody joined in the visit
another : (p c d : ℕ) (peer challenge : List ℕ) (now : ℕ) (between : List Entry) → has_joined c (calls_within p peer challenge now d between) ≡ false → (d == c) ≡ false
another p c d peer challenge now between none =
    (or-parts (d == c) false (or-parts (has_joined c between) ((d == c) || false) (sym (within-joined p c d peer challenge now between) ∙ none)).1).0

within-ended : (p c : ℕ) (peer challenge : List ℕ) (now : ℕ) (between : List Entry) → has_ended_in c between ≡ true → has_ended_in c (calls_within p peer challenge now c between) ≡ true
within-ended p c peer challenge now between is = ended-append c between (entry p (Join peer challenge now) (Joined c) ∷ []) ∙ ap (λ b. b || false) is

as-itself : (p c : ℕ) (peer challenge : List ℕ) (now : ℕ) (between : List Entry) → has_joined c (calls_within p peer challenge now c between) ≡ true
as-itself p c peer challenge now between =
    within-joined p c c peer challenge now between ∙ ap (λ b. has_joined c between || (b || false)) (eq-eqb c c refl) ∙ or-true (has_joined c between)

once-rest : (c : ℕ) (xs ys : List Entry) → JoinsOnce c (xs ++ ys) → JoinsOnce c ys
once-rest c [] ys once = once
once-rest c (x ∷ xs) ys once = once-rest c xs ys once.1

once-head : (c : ℕ) (x : Entry) (xs ys : List Entry) → JoinsOnce c (x ∷ xs ++ ys) → (has_joined c xs ≡ true → has_joined c ys ≡ false) → (is : Bool) → joins_as c x.reply ≡ is
    → (is || has_joined c xs) ≡ true → has_joined c ys ≡ false
once-head c x xs ys once rest true is there = (or-parts (has_joined c xs) (has_joined c ys) (sym (joined-append c xs ys) ∙ once.0 is)).1
once-head c x xs ys once rest false is there = rest there

-- who joined later had not joined before
once-before : (c : ℕ) (xs ys : List Entry) → JoinsOnce c (xs ++ ys) → has_joined c xs ≡ true → has_joined c ys ≡ false
once-before c [] ys once there = absurd (false≢true there)
once-before c (x ∷ xs) ys once there = once-head c x xs ys once (once-before c xs ys once.1) (joins_as c x.reply) refl there

module _ {S : Type 0} (reports : S → StreamCall → S → Type 0) (may_read : ℕ → Type 0) (arrives : List ℕ → List ℕ → S → Type 0) (p : ℕ) where
  abbrev calls : List Visit → List Entry
  calls = flat_map (calls_of p)

  -- nothing is delivered to a connection in a visit that did not join as it
  silent : (c : ℕ) (v : Visit) → IsVisit reports may_read arrives p v → has_joined c (calls_of p v) ≡ false → bytes_delivered c (calls_of p v) ≡ []
  silent c (join_refused peer challenge now r) is none =
      delivered-more c (entry p (Join peer challenge now) r) [] ∙ append-nil (bytes_delivered c []) ∙ delivered-none c
  silent c (joined_only peer challenge now d) is none = within-delivered p c d peer challenge now [] ∙ delivered-none c
  silent c (served peer challenge now d end events its) is none =
      let between = reverse its in
      within-delivered p c d peer challenge now between ∙ other-delivered may_read p c d (port_calls events) its is.4 (another p c d peer challenge now between none)

  -- it joined in these calls, what its deeds gave was delivered by them, and what ended it stands among them
  abbrev Delivers : List Entry → Visit → Type 0
  Delivers mine (join_refused peer challenge now r) = Unit {0}
  Delivers mine (joined_only peer challenge now c) = Unit {0}
  Delivers mine (served peer challenge now c end events its) = (has_joined c mine ≡ true) × (bytes_delivered c mine ≡ all_taken events) × (end ≡ ends.Ended → has_ended_in c mine ≡ true)

  first-delivers : (v : Visit) (mine : List Entry) → IsVisit reports may_read arrives p v → All IsFit (calls_of p v) → ((c : ℕ) → has_joined c (calls_of p v) ≡ true → bytes_delivered c mine ≡ [])
      → Delivers (calls_of p v ++ mine) v
  first-delivers (join_refused peer challenge now r) mine is fits before = tt
  first-delivers (joined_only peer challenge now c) mine is fits before = tt
  first-delivers (served peer challenge now c end events its) mine is fits before =
      let between = reverse its in
      let own = calls_within p peer challenge now c between in
      let joins = as-itself p c peer challenge now between in (
        joined-append c own mine ∙ ap (λ b. b || has_joined c mine) joins,
        delivered-append c own mine ∙ ap₂ ◌++◌ (before c joins) (within-delivered p c c peer challenge now between ∙ given-delivered may_read p c (port_calls events) its is.4 ∙ sym (taken-given events)),
        λ e. ended-append c own mine
            ∙ ap (λ b. b || has_ended_in c mine) (within-ended p c peer challenge now between (told-ended may_read p c (port_calls events) its is.4 (ends-among events None (subst (λ x. IsCauseOf x events) e is.3.cause)))),
      )

  later-delivers : (v w : Visit) (mine : List Entry) → IsVisit reports may_read arrives p v → ((c : ℕ) → has_joined c mine ≡ true → has_joined c (calls_of p v) ≡ false) → Delivers mine w
      → Delivers (calls_of p v ++ mine) w
  later-delivers v (join_refused peer challenge now r) mine is before d = tt
  later-delivers v (joined_only peer challenge now c) mine is before d = tt
  later-delivers v (served peer challenge now c end events its) mine is before d = (
    joined-append c (calls_of p v) mine ∙ ap (λ b. has_joined c (calls_of p v) || b) d.0 ∙ or-true (has_joined c (calls_of p v)),
    delivered-append c (calls_of p v) mine ∙ ap (λ bs. bytes_delivered c mine ++ bs) (silent c v is (before c d.0)) ∙ append-nil (bytes_delivered c mine) ∙ d.1,
    λ e. ended-append c (calls_of p v) mine ∙ ap (λ b. has_ended_in c (calls_of p v) || b) (d.2 e) ∙ or-true (has_ended_in c (calls_of p v)),
  )

  -- nothing is delivered to who has not joined
  all-silent : (c : ℕ) (vs : List Visit) → All (IsVisit reports may_read arrives p) vs → has_joined c (calls vs) ≡ false → bytes_delivered c (calls vs) ≡ []
  all-silent c [] each none = delivered-none c
  all-silent c (v ∷ vs) each none =
      let parts = or-parts (has_joined c (calls_of p v)) (has_joined c (calls vs)) (sym (joined-append c (calls_of p v) (calls vs)) ∙ none) in
      delivered-append c (calls_of p v) (calls vs)
      ∙ ap₂ ◌++◌ (all-silent c vs (All-tail (IsVisit reports may_read arrives p) v vs each) parts.1) (silent c v (All-head (IsVisit reports may_read arrives p) v vs each) parts.0)

  only-later : (c : ℕ) (xs ys : List Entry) → JoinsOnce c (xs ++ ys) → has_joined c ys ≡ true → (is : Bool) → has_joined c xs ≡ is → is ≡ false
  only-later c xs ys once there true is = absurd (false≢true (sym (once-before c xs ys once is) ∙ there))
  only-later c xs ys once there false is = refl

  all-deliver : (vs : List Visit) → All (IsVisit reports may_read arrives p) vs → All IsFit (calls vs) → ((c : ℕ) → JoinsOnce c (calls vs)) → All (Delivers (calls vs)) vs
  all-deliver [] each fits once = All-nil (Delivers (calls []))
  all-deliver (v ∷ vs) each fits once =
      let rest = all-deliver vs (All-tail (IsVisit reports may_read arrives p) v vs each) (all-rest IsFit (calls_of p v) (calls vs) fits) (λ c. once-rest c (calls_of p v) (calls vs) (once c)) in
      let is = All-head (IsVisit reports may_read arrives p) v vs each in
      All-cons (Delivers (calls (v ∷ vs))) v vs
      (first-delivers v (calls vs) is (all-first IsFit (calls_of p v) (calls vs) fits)
      (λ c there. all-silent c vs (All-tail (IsVisit reports may_read arrives p) v vs each) (once-before c (calls_of p v) (calls vs) (once c) there)))
      (λ k d l. later-delivers v _ (calls vs) is (λ c there. only-later c (calls_of p v) (calls vs) (once c) there (has_joined c (calls_of p v)) refl) (rest k d l))

module _ {S : Type 0} (reports : S → StreamCall → S → Type 0) (may_read : ℕ → Type 0) (arrives : List ℕ → List ℕ → S → Type 0) (setup : Configured) (hash : List ℕ → List ℕ) (log : List Entry) (legal : Legal setup hash log) (p : ℕ) where
  first-of : (c : ℕ) (events : List Event) (more : List ℕ) → bytes_delivered c log ≡ all_taken events → all_taken events ≡ all_written events ++ more
      → concat (lines_owed setup hash log c) ≡ all_written events ++ (more ++ concat (drop (count_taken setup hash log c) (lines_owed setup hash log c)))
  first-of c events more given written =
      let owed = lines_owed setup hash log c in
      let n = count_taken setup hash log c in
      ap concat (sym (take-append-drop n owed)) ∙ concat-append (take n owed) (drop n owed)
      ∙ ap (λ bs. bs ++ concat (drop n owed)) (sym (delivered_are_the_first setup hash log legal c) ∙ given ∙ written)
      ∙ append_assoc (all_written events) more (concat (drop n owed))

  paid-one : (mine : List Entry) → entries_of p log ≡ mine → (v : Visit) → IsVisit reports may_read arrives p v → Delivers reports may_read arrives p mine v → IsFirstOfOwed setup hash log v
  paid-one mine are (join_refused peer challenge now r) is d = tt
  paid-one mine are (joined_only peer challenge now c) is d = tt
  paid-one mine are (served peer challenge now c end events its) is d =
      let owed = lines_owed setup hash log c in
      let more = is.3.first_bytes in
      let given = delivered-by setup hash log legal p c (ap (has_joined c) are ∙ d.0) ∙ ap (bytes_delivered c) are ∙ d.1 in
      let whole = λ (wrote : wrote_all end ≡ true). sym (is.3.all_bytes wrote) ∙ sym given ∙ delivered_are_the_first setup hash log legal c in
      let told = λ (e : end ≡ ends.Ended). ended-by c p log (ap (has_ended_in c) are ∙ d.2 e) in
      record {
        first = (more.0 ++ concat (drop (count_taken setup hash log c) owed), first-of c events more.0 given more.1);
        whole = whole;
        all = λ e. whole (ap wrote_all e) ∙ ap concat (all-taken setup hash log c legal (told e));
      }

  pub all-paid : (v : AreVisits reports may_read arrives p (entries_of p log)) → All (IsFirstOfOwed setup hash log) v.visits
  all-paid v =
      let fits = subst (All IsFit) v.calls (all-own-fit p log (all-fit setup hash log legal)) in
      let once = λ (c : ℕ). subst (JoinsOnce c) v.calls (joins-once setup hash log legal p c) in
      let deliver = all-deliver reports may_read arrives p v.visits v.each fits once in
      λ k d l. paid-one (calls reports may_read arrives p v.visits) v.calls _ (v.each k d l) (deliver k d l)

module _ {S : Type 0} (reports : S → StreamCall → S → Type 0) (may_read : ℕ → Type 0) (arrives : List ℕ → List ℕ → S → Type 0) where
  pub visits_are_paid : EachWroteTheFirst reports may_read arrives
  visits_are_paid setup hash log legal caller its = all-paid reports may_read arrives setup hash log legal caller its

  -- what is said of the calls of a caller in the history is said of those that it has made
  own-paid : (setup : Configured) (hash : List ℕ → List ℕ) (log : List Entry) → Legal setup hash log → (p : ℕ) (mine : List Entry) → entries_of p log ≡ mine → AreVisits reports may_read arrives p mine
      → (its : AreVisits reports may_read arrives p mine) × All (IsFirstOfOwed setup hash log) its.visits
  own-paid setup hash log legal p mine own its =
      subst (λ es. AreVisits reports may_read arrives p es → (its : AreVisits reports may_read arrives p es) × All (IsFirstOfOwed setup hash log) its.visits) own
      (λ theirs. (theirs, all-paid reports may_read arrives setup hash log legal p theirs)) its

  paid-visitor : (setup : Configured) (hash : List ℕ → List ℕ) (log : List Entry) → Legal setup hash log → (p : ℕ) (mine : List Entry) → entries_of p log ≡ mine
      → ∥ AreVisits reports may_read arrives p mine ∥₁ → ∥ ((its : AreVisits reports may_read arrives p mine) × All (IsFirstOfOwed setup hash log) its.visits) ∥₁
  paid-visitor setup hash log legal p mine own visited = ∥∥₁_map visited (own-paid setup hash log legal p mine own)

module _ {H R T S : Type 0} (terms_of : T → Terms H R) (number_of : T → ℕ) (peer_of : T → List ℕ) (began : T → S) (reports : S → StreamCall → S → Type 0) (may_read : ℕ → Type 0) where
  pub written_is_owed : WrittenIsOwed terms_of number_of peer_of began reports may_read
  written_is_owed setup hash terms visitors joins all =
      λ k d l. paid-visitor reports may_read (Arrives terms_of number_of peer_of began terms) setup hash all.settled.log all.settled.legal _ _ (all.settled.own k d l) (all.visits k d l)
