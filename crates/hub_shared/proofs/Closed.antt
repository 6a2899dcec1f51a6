-- Once all visitors are back, no connection is open.
use Rattle.std.proofs.Common.{◌≡◌, ◌∙◌, sym, ap, ap₂, refl, subst, ℕ, Bool, true, false, not, ◌&&◌, ◌||◌, ◌==◌, cond, List, [], ◌∷◌, map, arith}
use Rattle.std.specs.List.{All, Contains}
use Rattle.std.proofs.lemmas.Bool.{false≢true, eqb-true, eq-eqb}
use Rattle.std.proofs.lemmas.List.Elements.{All-nil, All-cons, All-head, All-tail}
use Rattle.std.proofs.lemmas.Map.Made.{Contains-tail}
use Rattle.user_table.specs.declared.totals.Totals.{Totals}
use Rattle.user_table.specs.Tables.{totals_of}
use Rattle.one_history.specs.Histories.{Begins}
use Rattle.one_history.specs.Settled.{Settles, numbers}
use Rattle.one_history.specs.States.{Caller, callers_of, caller_of}
use Rattle.hub_core.specs.CoreState.{CoreState}
use Rattle.hub_core.specs.Moves.{StandsAt}
use Rattle.hub_core.specs.Promises.{CountsJoins, SumsUp}
use Rattle.hub_rules.specs.declared.history.Entry.{Entry}
use Rattle.hub_rules.specs.Configured.{Configured}
use Rattle.hub_rules.specs.Facts.{facts, user_of}
use Rattle.hub_rules.specs.History.{open_connections, present}
use Rattle.hub_rules.specs.Legal.{Legal}
use Rattle.hub_invariants.specs.OpenConnections.{has_joined, has_quit, joins_as}
use Rattle.hub_invariants.specs.Promises.{is_in}
use Rattle.hub_invariants.proofs.Kept.{users_are_open}
use Rattle.hub_invariants.proofs.Members.{both}
use Rattle.hub_invariants.proofs.Open.{open_are_those_that_stayed}
use Rattle.hub_invariants.proofs.Sound.{or-true}
use Rattle.hub_shared.specs.Callers.{VisitorState, seat_of}
use Rattle.hub_shared.specs.Close.{HasQuit, Settled}
use Rattle.hub_shared.specs.Connections.{entries_of, has_stayed}
use Rattle.hub_shared.proofs.Known.{is-known}

-- ---- who joined a connection

abbrev IsFrom : List ℕ → Entry → Type 0
IsFrom ps e = Contains ps e.caller

-- one of the callers joined the connection
abbrev IsJoinedBy : ℕ → List ℕ → List Entry → Type 0
IsJoinedBy c ps h = (p : ℕ) × Contains ps p × (has_joined c (entries_of p h) ≡ true)

joined-more : (c p : ℕ) (e : Entry) (h : List Entry) (is : Bool) → has_joined c (entries_of p h) ≡ true → has_joined c (cond is (e ∷ entries_of p h) (entries_of p h)) ≡ true
joined-more c p e h true joined = ap (λ b. joins_as c e.reply || b) joined ∙ or-true (joins_as c e.reply)
joined-more c p e h false joined = joined

joined-last : (c : ℕ) (e : Entry) (h : List Entry) → joins_as c e.reply ≡ true → has_joined c (entries_of e.caller (e ∷ h)) ≡ true
joined-last c e h is =
    ap (λ b. has_joined c (cond b (e ∷ entries_of e.caller h) (entries_of e.caller h))) (eq-eqb e.caller e.caller refl)
    ∙ ap (λ b. b || has_joined c (entries_of e.caller h)) is

joined-here : (c : ℕ) (ps : List ℕ) (e : Entry) (h : List Entry) → IsFrom ps e → (is : Bool) → joins_as c e.reply ≡ is → (is || has_joined c h) ≡ true
    → (has_joined c h ≡ true → IsJoinedBy c ps h) → IsJoinedBy c ps (e ∷ h)
joined-here c ps e h from true is joined before = (e.caller, from, joined-last c e h is)
joined-here c ps e h from false is joined before = let b = before joined in (b.0, b.1, joined-more c b.0 e h (e.caller == b.0) b.2)

joined-by : (c : ℕ) (ps : List ℕ) (h : List Entry) → All (IsFrom ps) h → has_joined c h ≡ true → IsJoinedBy c ps h
joined-by c ps [] from joined = absurd (false≢true joined)
joined-by c ps (e ∷ h) from joined =
    joined-here c ps e h (All-head (IsFrom ps) e h from) (joins_as c e.reply) refl joined (λ before. joined-by c ps h (All-tail (IsFrom ps) e h from) before)

-- ---- everybody quit

abbrev IsOwn : List Entry → Caller Entry → Type 0
IsOwn log g = entries_of g.number log ≡ g.mine

abbrev AllQuit : Caller Entry → Type 0
AllQuit g = HasQuit g.mine

quit-one : (log : List Entry) (p : ℕ) (g : Caller Entry) (gs : List (Caller Entry)) → IsOwn log g → AllQuit g → (is : Bool) → (g.number == p) ≡ is
    → Contains (g.number ∷ numbers gs) p → (Contains (numbers gs) p → HasQuit (entries_of p log)) → HasQuit (entries_of p log)
quit-one log p g gs own quit true is there rest d = ap (has_stayed d) (ap (λ q. entries_of q log) (sym (eqb-true g.number p is)) ∙ own) ∙ quit d
quit-one log p g gs own quit false is there rest d = rest (Contains-tail g.number (numbers gs) p (λ same. false≢true (sym is ∙ eq-eqb g.number p same)) there) d

quit-of : (log : List Entry) (p : ℕ) (gs : List (Caller Entry)) → Contains (numbers gs) p → All (IsOwn log) gs → All AllQuit gs → HasQuit (entries_of p log)
quit-of log p [] there own quit = absurd (omega (arith, there.1))
quit-of log p (g ∷ gs) there own quit =
    quit-one log p g gs (All-head (IsOwn log) g gs own) (All-head AllQuit g gs quit) (g.number == p) refl there
    (λ later. quit-of log p gs later (All-tail (IsOwn log) g gs own) (All-tail AllQuit g gs quit))

still-open : (setup : Configured) (hash : List ℕ → List ℕ) (log : List Entry) (gs : List (Caller Entry)) (c : ℕ) → Legal setup hash log → All (IsFrom (numbers gs)) log → All (IsOwn log) gs
    → All AllQuit gs → (is : Bool) → is_in c (open_connections setup hash log) ≡ is → is ≡ false
still-open setup hash log gs c legal from own quit false is = refl
still-open setup hash log gs c legal from own quit true is =
    let parts = both (has_joined c log) (not (has_quit c log)) (sym (open_are_those_that_stayed setup hash log legal c) ∙ is) in
    let by = joined-by c (numbers gs) log from parts.0 in
    let k = is-known setup hash log legal by.0 c by.2 in
    let stays : has_stayed c (entries_of by.0 log) ≡ true = ap₂ ◌&&◌ by.2 (ap not (sym k.quit) ∙ parts.1) in
    absurd (false≢true (sym (quit-of log by.0 gs by.1 own quit c) ∙ stays))

present-none : (setup : Configured) (hash : List ℕ → List ℕ) (log : List Entry) (c : ℕ) → is_in c (open_connections setup hash log) ≡ false → (is : Bool) → is_in c (present setup hash log) ≡ is → is ≡ false
present-none setup hash log c none false is = refl
present-none setup hash log c none true is = absurd (false≢true (sym none ∙ users_are_open setup hash log c is))

none-in : (xs : List ℕ) → ((c : ℕ) → is_in c xs ≡ false) → xs ≡ []
none-in [] none = refl
none-in (x ∷ xs) none = absurd (false≢true (sym (none x) ∙ ap (λ b. b || is_in x xs) (eq-eqb x x refl)))

nobody-present : (setup : Configured) (hash : List ℕ → List ℕ) (log : List Entry) (gs : List (Caller Entry)) → Legal setup hash log → All (IsFrom (numbers gs)) log → All (IsOwn log) gs
    → All AllQuit gs → present setup hash log ≡ []
nobody-present setup hash log gs legal from own quit =
    none-in (present setup hash log)
    (λ c. present-none setup hash log c (still-open setup hash log gs c legal from own quit (is_in c (open_connections setup hash log)) refl) (is_in c (present setup hash log)) refl)

-- ---- the report

-- what the lock tells of all callers, said of the visitors
abbrev pub SettlesAt : Configured → (List ℕ → List ℕ) → CoreState → List (Caller Entry) → Type 0
SettlesAt setup hash core gs = Settles (λ (e : Entry). e.caller) (Legal setup hash) (λ h. StandsAt setup hash h core) gs

pub nobody-left : (setup : Configured) (hash : List ℕ → List ℕ) (core : CoreState) (gs : List (Caller Entry)) → All (λ g. HasQuit g.mine) gs → SettlesAt setup hash core gs → (told : Totals)
    → SumsUp told core → told.users ≡ 0
nobody-left setup hash core gs quit s told sums =
    ap (λ (t : Totals). t.users) (sums setup hash s.log s.stands ∙ ap (λ xs. totals_of (map (user_of (facts setup hash s.log).about) xs)) (nobody-present setup hash s.log gs s.lawful s.only s.own quit))

module _ {H : Type 0} where
  numbers-are : (visitors : List (VisitorState H)) → numbers (callers_of seat_of visitors) ≡ map (λ (v : VisitorState H). v.caller.number) visitors
  numbers-are [] = refl
  numbers-are (v ∷ vs) = ap (λ ps. v.caller.number ∷ ps) (numbers-are vs)

  all-visitors : (P : Caller Entry → Type 0) (visitors : List (VisitorState H)) → All P (callers_of seat_of visitors) → All (λ (v : VisitorState H). P (caller_of (seat_of v))) visitors
  all-visitors P [] all = All-nil (λ (v : VisitorState H). P (caller_of (seat_of v)))
  all-visitors P (v ∷ vs) all =
      All-cons (λ (w : VisitorState H). P (caller_of (seat_of w))) v vs (All-head P (caller_of (seat_of v)) (callers_of seat_of vs) all)
      (all-visitors P vs (All-tail P (caller_of (seat_of v)) (callers_of seat_of vs) all))

  pub closes : (setup : Configured) (hash : List ℕ → List ℕ) (core : CoreState) (visitors : List (VisitorState H)) (gs : List (Caller Entry)) → gs ≡ callers_of seat_of visitors
      → All (λ g. HasQuit g.mine) gs → SettlesAt setup hash core gs → (joins : ℕ) → CountsJoins joins core → Settled setup hash visitors joins
  closes setup hash core visitors gs are quit s joins counts = record {
    log = s.log;
    legal = s.lawful;
    begins = all-visitors (λ g. Begins s.log g.seen) visitors (subst (All (λ g. Begins s.log g.seen)) are s.begins);
    own = all-visitors (λ g. entries_of g.number s.log ≡ g.mine) visitors (subst (All (λ g. entries_of g.number s.log ≡ g.mine)) are s.own);
    only = subst (λ ps. All (λ (e : Entry). Contains ps e.caller) s.log) (ap numbers are ∙ numbers-are visitors) s.only;
    counted = counts setup hash s.log s.stands;
    nobody = nobody-present setup hash s.log gs s.lawful s.only s.own quit;
  }
