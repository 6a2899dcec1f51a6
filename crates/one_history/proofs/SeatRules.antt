-- Seats that come, are put together and are cut in two keep the rule; so does the opening, and the end shows the whole history.
use Rattle.std.proofs.Common.{◌≡◌, ℕ, zero, suc, ◌+◌, ◌<◌, ◌≤◌, ◌≢◌, ◌⊎◌, Option, Some, None, List, [], ◌∷◌, ◌++◌, length, map, set, get_or, sym, refl, ap, ◌∙◌, subst, inl, inr, ⊎_elim, arith, cond, Bool, true, false, length-append}
use Rattle.std.proofs.lemmas.List.Elements.{All-nil, All-cons, All-append, All-weaker}
use Rattle.std.specs.List.{All, Contains}
use mathlib.Core.Logic.{dite}
use mathlib.Core.Option.{some, some-injective, some-ne-none}
use native.Mathlib.Decide.{ℕ_discrete}
use lib.ListN.{get_elem?}
use Rattle.atomic_table.specs.Table.{State, Splits, Joins, Final, Seen}
use Rattle.atomic_table.proofs.Lists.{at_set, at_snoc, set_here, set_else}
use Rattle.one_history.specs.Histories.{Begins, entries, longer, total}
use Rattle.one_history.specs.Claims.{claim, is_of, stamped, Agrees, IsKnown}
use Rattle.one_history.specs.Rule.{view, spent, claimed, claims_in, holding, Fits, Kept}
use Rattle.one_history.specs.Plays.{admitting, newly, paired, left_of, right_of, gathering}
use Rattle.one_history.specs.declared.view.SeatView.{SeatView}
use Rattle.one_history.specs.declared.view.SeatClaim.{SeatClaim}
use Rattle.one_history.proofs.Sums.{total-append, total-set, terms_le, is_of-same, is_of-other, total-stamped, length-stamped, total-parts, length-parts}
use Rattle.one_history.proofs.Starts.{begins_refl, begins_nil, longer_elim, longer_begins, longer_left, longer_right, entries-unknown}
use Rattle.one_history.proofs.Claims.{Early, early_later, early_stamped, parts_first, parts_other, agrees_stamped, agrees_between, claim_of}

first_in : {X : Type 0} (l : List X) (j : ℕ) (x y : X) → get_elem? l j ≡ some x → 0 < length (set l j y)
first_in [] j x y e = absurd (some-ne-none x (sym e))
first_in (z ∷ l) zero x y e = omega arith
first_in (z ∷ l) (suc j) x y e = omega arith

in_first : {X : Type 0} (l : List X) (x : X) → get_elem? l 0 ≡ some x → 0 < length l
in_first [] x e = absurd (some-ne-none x (sym e))
in_first (y ∷ l) x e = omega arith

at_shorter : {X : Type 0} (l : List X) (u x : X) → 0 < length l → get_elem? (l ++ u ∷ []) 0 ≡ some x → get_elem? l 0 ≡ some x
at_shorter [] u x lt e = absurd (omega arith)
at_shorter (y ∷ l) u x lt e = e

some_term : {X : Type 0} (g : X → ℕ) (l : List X) → 0 < total g l → (j : ℕ) × (x : X) × (get_elem? l j ≡ some x) × (0 < g x)
some_term g [] some_of = absurd (omega arith)
some_term g (y ∷ l) some_of =
    dite (ℕ_discrete (g y) 0)
    (λ z. let later = some_term g l (omega arith) in (suc later.0, later.1, later.2, later.3))
    (λ nz. (0, y, refl, omega arith))

is_true : (b : Bool) → 0 < cond b 1 0 → b ≡ true
is_true true lt = refl
is_true false lt = absurd (omega arith)

few_of : {E : Type 0} (p : ℕ) (cs : List (SeatClaim E)) → total (is_of p) cs ≤ length cs
few_of p [] = omega arith
few_of p (c ∷ cs) =
    dite (ℕ_discrete c.number p)
    (λ same. omega (arith, is_of-same p c same, few_of p cs))
    (λ other. omega (arith, is_of-other p c other, few_of p cs))

-- The end shows the value, and one legal history at which it stands. It has the entries of the callers whom the host gathered, and no others
pub record Ends {T E A : Type 0} (by : E → ℕ) (legal : List E → Type 0) (stands : T → List E → Type 0) (v : SeatView E A) (xs : List (Option T)) : Type 0 where
  pub log : List E
  pub value : T
  pub there : get_elem? xs 0 ≡ some (Some value)
  pub lawful : legal log
  pub rests : stands value log
  pub early : All (Early log) v.claims
  pub whole : All (Agrees by log) v.claims
  pub only : All (λ e. Contains (map (λ (c : SeatClaim E). c.number) v.claims) (by e)) log

module _ {T E A : Type 0} (by : E → ℕ) (legal : A → List E → Type 0) (stands : A → T → List E → Type 0) (key : A) where
  abbrev pub Table : Type 0
  Table = State (Option T) (SeatView E A)

  abbrev pub Holds : Table → Type 0
  Holds s = Kept by legal stands key s

  abbrev pub Fit : List E → SeatView E A → Type 0
  Fit log v = Fits by (legal key) key log v

  -- One view is changed and another is added
  split : (s : Table) (k : Holds s) (id count : ℕ) (v w u : SeatView E A) → get_elem? s.views id ≡ some v
      → ((x : SeatView E A) → get_elem? (set s.views id w) 0 ≡ some x → x.count ≡ count) → k.count ≤ count
      → Fit k.log w → Fit k.log u
      → ((p : ℕ) → 0 < p → p ≤ count → total (claimed p) s.views + (claimed p w + claimed p u) ≡ 1 + claimed p v)
      → ((p : ℕ) → (p ≡ 0) ⊎ (count < p) → claimed p w + claimed p u ≡ claimed p v)
      → claims_in w + claims_in u + k.count ≡ claims_in v + count
      → holding w ≡ holding v → holding u ≡ 0
      → Holds record { words = s.words; homes = s.homes; views = set s.views id w ++ u ∷ [] }
  split s k id count v w u at hosted more fit_w fit_u once never many same idle =
      let there : 0 < length (set s.views id w) = first_in s.views id v w at in
      let sums : (g : SeatView E A → ℕ) → total g (set s.views id w ++ u ∷ []) + g v ≡ total g s.views + (g w + g u) =
      λ g. omega (arith, total-append g (set s.views id w) (u ∷ []), total-set g s.views id v w at)
      in
      record {
        log = k.log;
        count = count;
        wide = k.wide;
        start = k.start;
        lawful = k.lawful;
        hosted = λ x here. hosted x (at_shorter (set s.views id w) u x there here);
        fits = λ j x here. ⊎_elim
            (λ in_old. ⊎_elim (λ t. subst (Fit k.log) t.1 fit_w) (λ t. k.fits j x t.1) (at_set s.views id j w x in_old))
            (λ is_new. subst (Fit k.log) is_new fit_u)
            (at_snoc (set s.views id w) u x j here);
        once = λ p low high. omega (arith, sums (claimed p), once p low high);
        never = λ p out. omega (arith, sums (claimed p), never p out, k.never p (⊎_elim inl (λ lt. inr (omega arith)) out));
        many = omega (arith, sums claims_in, k.many);
        callers = All-weaker (IsKnown by k.count) (IsKnown by count) (λ e known. (known.0, omega (arith, known.1))) k.log k.callers;
        free = λ z. (omega (arith, sums holding, (k.free z).0), (k.free z).1);
        taken = λ nz. (omega (arith, sums holding, (k.taken nz).0), (k.taken nz).1);
      }

  first_admits : (v : SeatView E A) → Splits Holds 0 v (admitting v) (newly v)
  first_admits v s k at =
      let fit = k.fits 0 v at in
      let now : v.count ≡ k.count = k.hosted v at in
      let next : ℕ = v.count + 1 in
      let c : SeatClaim E = claim next [] [] in
      split s k 0 next v (admitting v) (newly v) at
      (λ x here. ap (λ (y : SeatView E A). y.count) (sym (some-injective (admitting v) x (sym (set_here s.views 0 (admitting v) (in_first s.views v at)) ∙ here))))
      (omega arith)
      record { told = fit.told; begins = fit.begins; fair = record { lawful = fit.fair.lawful; early = fit.fair.early; own = fit.fair.own }; whole = fit.whole; holder = fit.holder }
      (let none_yet : entries by next k.log ≡ [] = entries-unknown by k.count next k.log (inr (omega arith)) k.callers in
      record {
        told = fit.told;
        begins = begins_nil k.log;
        fair = record { lawful = k.start; early = All-cons (Early []) c [] (begins_refl []) (All-nil (Early [])); own = All-cons (Agrees by []) c [] refl (All-nil (Agrees by [])) };
        whole = All-cons (Agrees by k.log) c [] none_yet (All-nil (Agrees by k.log));
        holder = λ (h : false ≡ true). absurd (cc);
      })
      (λ p low high. dite (ℕ_discrete next p)
      (λ same. omega (arith, is_of-same p c same, k.never p (inr (omega arith))))
      (λ other. omega (arith, is_of-other p c other, k.once p low (omega arith))))
      (λ p out. omega (arith, is_of-other p c (λ same. ⊎_elim (λ z. omega arith) (λ lt. omega arith) out)))
      (omega arith)
      refl
      refl

  -- the host admits a caller
  pub admits : (id : ℕ) (v : SeatView E A) → id ≡ 0 → Splits Holds id v (admitting v) (newly v)
  admits id v first = subst (λ i. Splits Holds i v (admitting v) (newly v)) (sym first) (first_admits v)

  -- A view takes in another, with claims that are those of both
  joins : (id other : ℕ) (v w : SeatView E A) (cs : List (SeatClaim E)) → v.busy ≡ false → w.busy ≡ false → w.count ≡ 0
      → ((p : ℕ) → total (is_of p) cs ≡ claimed p v + claimed p w) → length cs ≡ claims_in v + claims_in w
      → ((log seen : List E) → Fit log v → Fit log w → Begins log seen → Begins seen v.seen → Begins seen w.seen → All (Early seen) cs × All (Agrees by seen) cs × All (Agrees by log) cs)
      → Joins Holds id v other w (view v.about (longer v.seen w.seen) cs v.busy v.count) spent
  joins id other v w cs idle idle_too guest of_both many true_of s k at ne at_other =
      let seen : List E = longer v.seen w.seen in
      let both : SeatView E A = view v.about seen cs v.busy v.count in
      let there : get_elem? s.views other ≡ some w = sym (set_else s.views id other both ne) ∙ at_other in
      let fit = k.fits id v at in
      let fit_other = k.fits other w there in
      let all = true_of k.log seen fit fit_other
      (longer_begins k.log v.seen w.seen fit.begins fit_other.begins)
      (longer_left k.log v.seen w.seen fit.begins fit_other.begins)
      (longer_right k.log v.seen w.seen fit.begins fit_other.begins)
      in
      let fit_both : Fit k.log both =
      record {
        told = fit.told;
        begins = longer_begins k.log v.seen w.seen fit.begins fit_other.begins;
        fair = record { lawful = longer_elim (legal key) v.seen w.seen (λ _. fit.fair.lawful) (λ _. fit_other.fair.lawful); early = all.0; own = all.1 };
        whole = all.2;
        holder = λ busy. let h : false ≡ true = sym idle ∙ busy in absurd (cc);
      }
      in
      let fit_spent : Fit k.log spent =
      record {
        told = λ a (none_told : None ≡ Some a). absurd (cc);
        begins = begins_nil k.log;
        fair = record { lawful = k.start; early = All-nil (Early []); own = All-nil (Agrees by []) };
        whole = All-nil (Agrees by k.log);
        holder = λ (h : false ≡ true). absurd (cc);
      }
      in
      let sums : (g : SeatView E A → ℕ) → total g (set (set s.views id both) other spent) + g v + g w ≡ total g s.views + g both + g spent =
      λ g. omega (arith, total-set g s.views id v both at, total-set g (set s.views id both) other w spent at_other)
      in
      let not_busy : (u : SeatView E A) → u.busy ≡ false → holding u ≡ 0 = λ u is. ap (λ b. let n : ℕ = cond b 1 0 in n) is in
      record {
        log = k.log;
        count = k.count;
        wide = k.wide;
        start = k.start;
        lawful = k.lawful;
        hosted = λ u here. ⊎_elim
            (λ t. ap (λ (x : SeatView E A). x.count) (sym t.1) ∙ (sym guest ∙ k.hosted w (subst (λ i. get_elem? s.views i ≡ some w) (sym t.0) there)))
            (λ t. ⊎_elim
            (λ r. ap (λ (x : SeatView E A). x.count) (sym r.1) ∙ k.hosted v (subst (λ i. get_elem? s.views i ≡ some v) (sym r.0) at))
            (λ r. k.hosted u r.1)
            (at_set s.views id 0 both u t.1))
            (at_set (set s.views id both) other 0 spent u here);
        fits = λ j u here. ⊎_elim
            (λ t. subst (Fit k.log) t.1 fit_spent)
            (λ t. ⊎_elim (λ r. subst (Fit k.log) r.1 fit_both) (λ r. k.fits j u r.1) (at_set s.views id j both u t.1))
            (at_set (set s.views id both) other j spent u here);
        once = λ p low high. omega (arith, sums (claimed p), of_both p, k.once p low high);
        never = λ p out. omega (arith, sums (claimed p), of_both p, k.never p out);
        many = omega (arith, sums claims_in, many, k.many);
        callers = k.callers;
        free = λ z. (omega (arith, sums holding, not_busy v idle, not_busy w idle_too, not_busy both idle, (k.free z).0), (k.free z).1);
        taken = λ nz. (omega (arith, sums holding, not_busy v idle, not_busy w idle_too, not_busy both idle, (k.taken nz).0), (k.taken nz).1);
      }

  stamped_true : (log seen : List E) (v : SeatView E A) → Fit log v → Begins log seen → Begins seen v.seen
      → All (Early seen) (stamped v.seen v.claims) × All (Agrees by seen) (stamped v.seen v.claims) × All (Agrees by log) (stamped v.seen v.claims)
  stamped_true log seen v fit b c = (
    early_stamped seen v.seen v.claims c,
    agrees_stamped by seen v.seen v.claims (agrees_between by log seen v.seen v.claims b c fit.whole fit.fair.own),
    agrees_stamped by log v.seen v.claims fit.whole,
  )

  -- two seats of callers become a pair's
  pub pairs : (id other : ℕ) (v w : SeatView E A) → v.busy ≡ false → w.busy ≡ false → w.count ≡ 0 → Joins Holds id v other w (paired v w) spent
  pairs id other v w idle idle_too guest =
      let cs : List (SeatClaim E) = stamped v.seen v.claims in
      let ds : List (SeatClaim E) = stamped w.seen w.claims in
      joins id other v w (cs ++ ds) idle idle_too guest
      (λ p. omega (arith, total-append (is_of p) cs ds, total-stamped p v.seen v.claims, total-stamped p w.seen w.claims))
      (omega (arith, length-append cs ds, length-stamped v.seen v.claims, length-stamped w.seen w.claims))
      (λ log seen fit fit_other b c d.
      let x = stamped_true log seen v fit b c in
      let y = stamped_true log seen w fit_other b d in
      (All-append (Early seen) cs ds x.0 y.0, All-append (Agrees by seen) cs ds x.1 y.1, All-append (Agrees by log) cs ds x.2 y.2))

  -- the host takes in a caller's seat
  pub gathers : (id other : ℕ) (v w : SeatView E A) → v.busy ≡ false → w.busy ≡ false → w.count ≡ 0 → Joins Holds id v other w (gathering v w) spent
  gathers id other v w idle idle_too guest =
      let ds : List (SeatClaim E) = stamped w.seen w.claims in
      joins id other v w (ds ++ v.claims) idle idle_too guest
      (λ p. omega (arith, total-append (is_of p) ds v.claims, total-stamped p w.seen w.claims))
      (omega (arith, length-append ds v.claims, length-stamped w.seen w.claims))
      (λ log seen fit fit_other b c d.
      let y = stamped_true log seen w fit_other b d in (
        All-append (Early seen) ds v.claims y.0 (early_later seen v.seen v.claims c fit.fair.early),
        All-append (Agrees by seen) ds v.claims y.1 (agrees_between by log seen v.seen v.claims b c fit.whole fit.fair.own),
        All-append (Agrees by log) ds v.claims y.2 fit.whole,
      ))

  -- a pair's seat becomes two callers'
  pub parts : (id : ℕ) (v : SeatView E A) → v.busy ≡ false → Splits Holds id v (left_of v) (right_of v)
  parts id v idle s k at =
      let fit = k.fits id v at in
      let w : SeatView E A = left_of v in
      let u : SeatView E A = right_of v in
      let idle_now : holding v ≡ 0 = ap (λ b. let n : ℕ = cond b 1 0 in n) idle in
      split s k id k.count v w u at
      (λ x here. ⊎_elim
      (λ t. ap (λ (y : SeatView E A). y.count) (sym t.1) ∙ k.hosted v (subst (λ i. get_elem? s.views i ≡ some v) (sym t.0) at))
      (λ t. k.hosted x t.1)
      (at_set s.views id 0 w x here))
      (omega arith)
      record {
        told = fit.told;
        begins = fit.begins;
        fair = record { lawful = fit.fair.lawful; early = parts_first (Early v.seen) v.claims fit.fair.early; own = parts_first (Agrees by v.seen) v.claims fit.fair.own };
        whole = parts_first (Agrees by k.log) v.claims fit.whole;
        holder = λ busy. let h : false ≡ true = sym idle ∙ busy in absurd (cc);
      }
      record {
        told = fit.told;
        begins = fit.begins;
        fair = record { lawful = fit.fair.lawful; early = parts_other (Early v.seen) v.claims fit.fair.early; own = parts_other (Agrees by v.seen) v.claims fit.fair.own };
        whole = parts_other (Agrees by k.log) v.claims fit.whole;
        holder = λ (h : false ≡ true). absurd (cc);
      }
      (λ p low high. omega (arith, total-parts (is_of p) v.claims, k.once p low high))
      (λ p out. total-parts (is_of p) v.claims)
      (omega (arith, length-parts v.claims))
      refl
      refl

  module _ (s : Table) (k : Holds s) (v : SeatView E A) (at : get_elem? s.views 0 ≡ some v) (all : claims_in v ≡ v.count) where
    -- whoever has a claim is the host
    alone : (j : ℕ) (u : SeatView E A) → get_elem? s.views j ≡ some u → 0 < claims_in u → v ≡ u
    alone j u there some_of =
        dite (ℕ_discrete j 0)
        (λ z. some-injective v u (sym at ∙ subst (λ i. get_elem? s.views i ≡ some u) z there))
        (λ nz. absurd (omega (arith, terms_le claims_in s.views 0 j v u nz at there, k.many, k.hosted v at)))

    claimed_by_host : (p : ℕ) → 0 < p → p ≤ k.count → 0 < claimed p v
    claimed_by_host p low high =
        let found = some_term (claimed p) s.views (omega (arith, k.once p low high)) in
        let u : SeatView E A = found.1 in
        let many : 0 < claims_in u = omega (arith, few_of p u.claims, found.3) in
        subst (λ (x : SeatView E A). 0 < claimed p x) (sym (alone found.0 u found.2 many)) found.3

    nobody_holds : v.busy ≡ false → get_or s.words 0 0 ≢ 0 → ⊥
    nobody_holds idle nz =
        let found = some_term holding s.views (omega (arith, (k.taken nz).0)) in
        let u : SeatView E A = found.1 in
        let busy : u.busy ≡ true = is_true u.busy found.3 in
        let same = alone found.0 u found.2 ((k.fits found.0 u found.2).holder busy).1 in
        let h : false ≡ true = sym idle ∙ (ap (λ (x : SeatView E A). x.busy) same ∙ busy) in
        absurd (cc)

    ends : v.busy ≡ false → (xs : List (Option T)) → ((i : ℕ) (y : Option T) → get_elem? s.homes i ≡ some (some y) → get_elem? xs i ≡ some y)
        → Ends by (legal key) (stands key) v xs
    ends idle xs final =
        let fit = k.fits 0 v at in
        let free = dite (ℕ_discrete (get_or s.words 0 0) 0) (λ z. k.free z) (λ nz. absurd (nobody_holds idle nz)) in
        record {
          log = k.log;
          value = free.1.0;
          there = final 0 (Some free.1.0) free.1.1;
          lawful = k.lawful;
          rests = free.1.2;
          early = early_later k.log v.seen v.claims fit.begins fit.fair.early;
          whole = fit.whole;
          only = All-weaker (IsKnown by k.count) (λ e. Contains (map (λ (c : SeatClaim E). c.number) v.claims) (by e))
              (λ e known. claim_of (by e) v.claims (claimed_by_host (by e) known.0 known.1)) k.log k.callers;
        }

  -- once the host has a claim of each caller, the table's end shows it all
  pub closes : (v : SeatView E A) (ws : List ℕ) (xs : List (Option T)) → claims_in v ≡ v.count → v.busy ≡ false
      → Final (Seen Holds 0 v) ws xs → Ends by (legal key) (stands key) v xs
  closes v ws xs all idle final = ends final.0 final.1.0 v final.1.1 all idle xs final.4
