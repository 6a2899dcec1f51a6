-- The connection that a caller names is found where it may call for it.
use Rattle.std.proofs.Common.{◌≡◌, ◌∙◌, refl, ap, ap₂, sym, subst, ℕ, ◌+◌, ◌-◌, ◌<◌, ◌≤◌, Bool, true, false, not, ◌&&◌, ◌||◌, ◌==◌, List, [], ◌∷◌, get_or, length, arith}
use Rattle.std.specs.Prelude.{Some, cond}
use Rattle.std.proofs.lemmas.Bool.{eqb-true, false≢true}
use Rattle.history_check.specs.declared.check.Joined.{Joined}
use Rattle.history_check.specs.Following.{FollowsHistory, FoundAs, IsJoined}
use Rattle.hub_core.specs.CoreState.{CoreState}
use Rattle.hub_core.specs.Moves.{StandsAt}
use Rattle.hub_core.specs.State.{IsSeated, Stands, has_seat}
use Rattle.hub_core.proofs.OpenSeats.{seated-open}
use Rattle.hub_core.proofs.NextHistory.{open-has-seat}
use Rattle.hub_rules.specs.declared.effect.Effect.{Effect}
use Rattle.hub_rules.specs.declared.history.Call.{Call}
use Rattle.hub_rules.specs.declared.history.Call.TheVariants.{Join, Line, Quit, Take}
use Rattle.hub_rules.specs.declared.history.Entry.{Entry}
use Rattle.hub_rules.specs.Configured.{Configured}
use Rattle.hub_rules.specs.Effects.{departure}
use Rattle.hub_rules.specs.Facts.{Facts, after, without_connection, effect_of_line, facts, happens, has_joins, has_place, with_connection}
use Rattle.hub_rules.specs.Legal.{IsOpenFor, is_open}
use Rattle.hub_invariants.proofs.Calls.{sound_of}
use Rattle.hub_invariants.proofs.Members.{has-append, has-filter}

-- an open connection has joined
pub open-joined : (setup : Configured) (hash : List ℕ → List ℕ) (h : List Entry) (core : CoreState) (with_connection : List Joined) (c : ℕ)
    → FollowsHistory setup hash h core with_connection → is_open c (facts setup hash h) ≡ true → c ≤ length with_connection
open-joined setup hash h core with_connection c follows open_c =
    subst (λ n. c ≤ n) (sym follows.counted) ((sound_of setup hash h).counted c open_c)

pub open-seated : (setup : Configured) (hash : List ℕ → List ℕ) (h : List Entry) (core : CoreState) (c : ℕ)
    → StandsAt setup hash h core → IsSeated c core → is_open c (facts setup hash h) ≡ true
unfolding Stands
open-seated setup hash h core c at is =
    sym (seated-open c (facts setup hash h).about (facts setup hash h).opened) ∙ ap (λ (s : CoreState). has_seat c s.seats) (sym at.stands) ∙ is

-- ---- no connection has the number 0

not-zero : (n c : ℕ) (same : Bool) → (n == c) ≡ same → c < n → same ≡ false
not-zero n c true is less = absurd (omega (arith, eqb-true n c is, less))
not-zero n c false is less = refl

joined-zero : (f : Facts) (caller : ℕ) (peer challenge : List ℕ) (accepted : Bool) → is_open 0 f ≡ false → is_open 0 (cond accepted (with_connection f caller peer challenge) f) ≡ false
unfolding with_connection
joined-zero f caller peer challenge true none =
    has-append 0 f.opened ((f.joins + 1) ∷ []) ∙ ap₂ (λ a b. a || (b || false)) none (not-zero (f.joins + 1) 0 ((f.joins + 1) == 0) refl (omega arith))
joined-zero f caller peer challenge false none = none

closed-zero : (c : ℕ) (f : Facts) → is_open 0 f ≡ false → is_open 0 (without_connection c f) ≡ false
unfolding without_connection
closed-zero c f none = has-filter (λ d. not (d == c)) 0 f.opened ∙ ap (λ b. b && not (0 == c)) none

happens-zero : (c : ℕ) (effect : Effect) (f : Facts) → is_open 0 f ≡ false → is_open 0 (happens c effect f) ≡ false
unfolding happens
happens-zero c effect f none = none

after-zero : (setup : Configured) (hash : List ℕ → List ℕ) (f : Facts) (caller : ℕ) (call : Call) → is_open 0 f ≡ false → is_open 0 (after setup hash f caller call) ≡ false
unfolding after
after-zero setup hash f caller (Join peer challenge now) none = joined-zero f caller peer challenge (has_place setup f && has_joins f) none
after-zero setup hash f caller (Line c bytes now) none = happens-zero c (effect_of_line setup hash f c bytes now) f none
after-zero setup hash f caller (Quit c) none =
    closed-zero c (happens c (departure (f.about c).stage (f.about c).sender.sid) f) (happens-zero c (departure (f.about c).stage (f.about c).sender.sid) f none)
after-zero setup hash f caller (Take c count) none = none

zero-closed : (setup : Configured) (hash : List ℕ → List ℕ) (h : List Entry) → is_open 0 (facts setup hash h) ≡ false
unfolding facts
zero-closed setup hash [] = refl
zero-closed setup hash (e ∷ h) = after-zero setup hash (facts setup hash h) e.caller e.call (zero-closed setup hash h)

-- ---- what is found, and what is not

pub none-of-zero : (setup : Configured) (hash : List ℕ → List ℕ) (h : List Entry) (caller c : ℕ) → c ≡ 0 → IsOpenFor (facts setup hash h) caller c → ⊥
none-of-zero setup hash h caller c is may =
    false≢true (sym (zero-closed setup hash h) ∙ ap (λ n. is_open n (facts setup hash h)) (sym is) ∙ may.0)

pub none-later : (setup : Configured) (hash : List ℕ → List ℕ) (h : List Entry) (core : CoreState) (with_connection : List Joined) (caller c : ℕ)
    → FollowsHistory setup hash h core with_connection → (c ≡ 0 → ⊥) → length with_connection ≤ c - 1 → IsOpenFor (facts setup hash h) caller c → ⊥
none-later setup hash h core with_connection caller c follows some past may =
    absurd (omega (arith, some, past, open-joined setup hash h core with_connection c follows may.0))

-- the connection at its place
pub at-place : (setup : Configured) (hash : List ℕ → List ℕ) (h : List Entry) (core : CoreState) (with_connection : List Joined) (c : ℕ) (j : Joined)
    → FollowsHistory setup hash h core with_connection → (c ≡ 0 → ⊥) → c - 1 < length with_connection → j ≡ get_or with_connection (c - 1) j → IsJoined (facts setup hash h) c j
at-place setup hash h core with_connection c j follows some within is =
    let same : (c - 1) + 1 ≡ c = omega (arith, some) in
    subst (λ n. IsJoined (facts setup hash h) n j) same (follows.known (c - 1) j within is)

pub none-closed : (setup : Configured) (hash : List ℕ → List ℕ) (h : List Entry) (core : CoreState) (caller c : ℕ) (j : Joined) → StandsAt setup hash h core
    → IsJoined (facts setup hash h) c j → (IsSeated j.connection core → ⊥) → IsOpenFor (facts setup hash h) caller c → ⊥
none-closed setup hash h core caller c j stands at away may =
    away (subst (λ n. IsSeated n core) (sym at.number) (open-has-seat setup hash h core c stands may.0))

pub found-open : (setup : Configured) (hash : List ℕ → List ℕ) (h : List Entry) (core : CoreState) (caller c : ℕ) (j : Joined) → StandsAt setup hash h core
    → IsJoined (facts setup hash h) c j → j.caller ≡ caller → IsSeated j.connection core → FoundAs (facts setup hash h) caller c (Some j)
found-open setup hash h core caller c j stands at mine here = (
  (open-seated setup hash h core c stands (subst (λ n. IsSeated n core) at.number here), at.owner ∙ mine),
  at.number,
  sym at.challenge,
)
