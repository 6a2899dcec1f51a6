-- Entry by entry: as far as a history was looked at, a hub follows it.
use Rattle.std.proofs.Common.{◌≡◌, ◌∙◌, ap, refl, sym, subst, ℕ, zero, suc, ◌+◌, ◌<◌, List, [], ◌∷◌, ◌++◌, get_or, length, take, arith}
use Rattle.std.proofs.Math.Seq.{take-suc}
use Rattle.history_check.specs.declared.check.Demand.{Demand}
use Rattle.history_check.specs.declared.check.Joined.{Joined}
use Rattle.history_check.specs.declared.written.WrittenEntry as written
use Rattle.history_check.specs.Following.{FollowsHistory}
use Rattle.history_check.specs.Judged.{Demands, IsFaultAt}
use Rattle.history_check.specs.Written.{entry_of, history_of}
use Rattle.hub_core.specs.CoreState.{CoreState}
use Rattle.hub_core.specs.Moves.{StandsAt}
use Rattle.hub_rules.specs.declared.history.Entry.{Entry}
use Rattle.hub_rules.specs.Configured.{Configured}
use Rattle.hub_rules.specs.Facts.{facts}

-- ---- before the first entry

no-joins : (setup : Configured) (hash : List ℕ → List ℕ) → 0 ≡ (facts setup hash []).joins
unfolding facts
no-joins setup hash = refl

none-written : [] ≡ history_of [] []
unfolding history_of
none-written = refl

pub follows-none : (setup : Configured) (hash : List ℕ → List ℕ) (core : CoreState) (joined : List Joined) (entries : List written.WrittenEntry) → StandsAt setup hash [] core → joined ≡ []
    → FollowsHistory setup hash (history_of (take 0 entries) []) core joined
follows-none setup hash core joined entries at none =
    subst (λ (h : List Entry). FollowsHistory setup hash h core joined) none-written
    (record {
      stands = at;
      counted = ap length none ∙ no-joins setup hash;
      known = λ i j within is. absurd (omega (arith, within, ap length none));
    })

-- ---- one entry more

one-more : (es : List written.WrittenEntry) (e : written.WrittenEntry) (h : List Entry) → history_of (es ++ e ∷ []) h ≡ entry_of e ∷ history_of es h
unfolding history_of
one-more [] e h = refl
one-more (x ∷ es) e h = one-more es e (entry_of x ∷ h)

history-more : (entries : List written.WrittenEntry) (place : ℕ) (e : written.WrittenEntry) → place < length entries → e ≡ get_or entries place e
    → history_of (take (place + 1) entries) [] ≡ entry_of e ∷ history_of (take place entries) []
history-more entries place e within is =
    let next : place + 1 ≡ suc place = omega arith in
    ap (λ n. history_of (take n entries) []) next
    ∙ ap (λ (es : List written.WrittenEntry). history_of es []) (take-suc entries place e within ∙ ap (λ (x : written.WrittenEntry). take place entries ++ x ∷ []) (sym is))
    ∙ one-more (take place entries) e []

pub follows-more : (setup : Configured) (hash : List ℕ → List ℕ) (entries : List written.WrittenEntry) (place : ℕ) (e : written.WrittenEntry) (core : CoreState) (joined : List Joined)
    → place < length entries → e ≡ get_or entries place e → FollowsHistory setup hash (entry_of e ∷ history_of (take place entries) []) core joined
    → FollowsHistory setup hash (history_of (take (place + 1) entries) []) core joined
follows-more setup hash entries place e core joined within is follows =
    subst (λ (h : List Entry). FollowsHistory setup hash h core joined) (sym (history-more entries place e within is)) follows

-- ---- an entry at fault

same-at : (xs : List written.WrittenEntry) (i : ℕ) (d e : written.WrittenEntry) → i < length xs → get_or xs i d ≡ get_or xs i e
same-at [] i d e within = absurd (omega (arith, within))
same-at (x ∷ xs) zero d e within = refl
same-at (x ∷ xs) (suc i) d e within = same-at xs i d e (omega (arith, within))

pub faults : (setup : Configured) (hash : List ℕ → List ℕ) (entries : List written.WrittenEntry) (place : ℕ) (e : written.WrittenEntry) (core : CoreState) (joined : List Joined) (demand : Demand)
    → place < length entries → e ≡ get_or entries place e → FollowsHistory setup hash (history_of (take place entries) []) core joined
    → Demands setup hash (history_of (take place entries) []) e demand → IsFaultAt setup hash entries place demand
faults setup hash entries place e core joined demand within is follows demands = (
  within,
  follows.stands.legal,
  (λ x at. subst (λ (y : written.WrittenEntry). Demands setup hash (history_of (take place entries) []) y demand) (is ∙ same-at entries place e x within ∙ sym at) demands),
)
