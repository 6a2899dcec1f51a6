-- Each step keeps the rule, and tells what its play says.
use Rattle.std.proofs.Common.{◌≡◌, ℕ, ◌+◌, ◌<◌, ◌≤◌, ◌≢◌, ◌⊎◌, Option, Some, List, [], ◌∷◌, length, set, get_or, sym, refl, ap, ◌∙◌, subst, inl, inr, ⊎_elim, arith, cond, true, false, eqb, length-set, lt_of_not-le}
use Rattle.std.proofs.lemmas.List.Elements.{All-nil, All-cons, All-head}
use Rattle.std.specs.List.{All}
use mathlib.Core.Logic.{dite}
use mathlib.Core.Option.{some, none, some-injective, some-ne-none}
use native.Mathlib.Decide.{ℕ_discrete, dec_le}
use lib.ListN.{get_elem?}
use Rattle.atomic_table.specs.Table.{State, Me, keeps, takes, gives, Allows, step}
use Rattle.atomic_table.proofs.Lists.{at_set, set_here, exchanged}
use prog.Atomic.{either}
use Rattle.one_history.specs.Seats.{IsIdle, IsUnchanged, IsReady}
use Rattle.one_history.specs.Histories.{total}
use Rattle.one_history.specs.Claims.{claim, is_of, added, Agrees, IsKnown}
use Rattle.one_history.specs.Rule.{view, claimed, claims_in, holding, Fair, Fits, Rests, Kept}
use Rattle.one_history.specs.Plays.{Tries, Adds, Returns, Learns}
use Rattle.one_history.specs.declared.view.SeatView.{SeatView}
use Rattle.one_history.specs.declared.view.SeatClaim.{SeatClaim}
use Rattle.one_history.proofs.Sums.{total-set, term_le, terms_le, is_of-same}
use Rattle.one_history.proofs.Starts.{begins_refl, begins_cons, entries-own}
use Rattle.one_history.proofs.Claims.{Early, early_later, agrees_others}

pub word_here : (ws : List ℕ) (n : ℕ) → length ws ≡ 1 → get_or (set ws 0 n) 0 0 ≡ n
word_here [] n e = absurd (omega arith)
word_here (w ∷ ws) n e = refl

module _ {T E A : Type 0} (by : E → ℕ) (legal : A → List E → Type 0) (stands : A → T → List E → Type 0) (key : A) where
  abbrev pub Table : Type 0
  Table = State (Option T) (SeatView E A)

  abbrev pub Holds : Table → Type 0
  Holds s = Kept by legal stands key s

  abbrev pub Fit : List E → SeatView E A → Type 0
  Fit log v = Fits by (legal key) key log v

  abbrev pub SameClaims : SeatView E A → SeatView E A → Type 0
  SameClaims v w = ((p : ℕ) → claimed p w ≡ claimed p v) × (claims_in w ≡ claims_in v)

  -- One view changes and keeps its callers; the word, the slot and the history may change with it
  moved : (s : Table) (k : Holds s) (ws : List ℕ) (hs : List (mathlib.Core.Option.Option (Option T))) (log : List E) (id : ℕ) (v w : SeatView E A)
      → get_elem? s.views id ≡ some v → SameClaims v w → w.count ≡ v.count
      → length ws ≡ 1 → legal key log → All (IsKnown by k.count) log
      → Fit log w → ((j : ℕ) (u : SeatView E A) → j ≢ id → get_elem? s.views j ≡ some u → Fit log u)
      → (get_or ws 0 0 ≡ 0 → (total holding (set s.views id w) ≡ 0) × Rests (stands key) record { words = ws; homes = hs; views = set s.views id w } log)
      → (get_or ws 0 0 ≢ 0 → (total holding (set s.views id w) ≡ 1) × (get_elem? hs 0 ≡ some none))
      → Holds record { words = ws; homes = hs; views = set s.views id w }
  moved s k ws hs log id v w at same count wide lawful known fit others free taken =
      record {
        log = log;
        count = k.count;
        wide = wide;
        start = k.start;
        lawful = lawful;
        hosted = λ u here. ⊎_elim
            (λ t. let at0 : get_elem? s.views 0 ≡ some v = subst (λ i. get_elem? s.views i ≡ some v) (sym t.0) at in
            ap (λ (x : SeatView E A). x.count) (sym t.1) ∙ (count ∙ k.hosted v at0))
            (λ t. k.hosted u t.1)
            (at_set s.views id 0 w u here);
        fits = λ j u here. ⊎_elim (λ t. subst (Fit log) t.1 fit) (λ t. others j u t.0 t.1) (at_set s.views id j w u here);
        once = λ p low high. omega (arith, total-set (claimed p) s.views id v w at, same.0 p, k.once p low high);
        never = λ p out. omega (arith, total-set (claimed p) s.views id v w at, same.0 p, k.never p out);
        many = omega (arith, total-set claims_in s.views id v w at, same.1, k.many);
        callers = known;
        free = free;
        taken = taken;
      }

  -- the word may go from taken to taken, and nothing else changes
  unmoved : (s : Table) (k : Holds s) (n id : ℕ) (v : SeatView E A) → get_elem? s.views id ≡ some v
      → (n ≡ 0 → get_or s.words 0 0 ≡ 0) → (get_or s.words 0 0 ≡ 0 → n ≡ 0)
      → Holds record { words = set s.words 0 n; homes = s.homes; views = set s.views id v }
  unmoved s k n id v at zero_back zero_on =
      let here : get_or (set s.words 0 n) 0 0 ≡ n = word_here s.words n k.wide in
      let holders : total holding (set s.views id v) ≡ total holding s.views = omega (arith, total-set holding s.views id v v at) in
      moved s k (set s.words 0 n) s.homes k.log id v v at ((λ p. refl), refl) refl
      (length-set s.words 0 n ∙ k.wide) k.lawful k.callers (k.fits id v at) (λ j u ne there. k.fits j u there)
      (λ z. let f = k.free (zero_back (sym here ∙ z)) in (holders ∙ f.0, f.1))
      (λ nz. let t = k.taken (λ z. nz (here ∙ zero_on z)) in (holders ∙ t.0, t.1))

  module _ (id : ℕ) (v : SeatView E A) where
    abbrev seized : List E → SeatView E A
    seized log = view v.about log v.claims true v.count

    seizes_free : (s : Table) (k : Holds s) (n : ℕ) → get_elem? s.views id ≡ some v → v.busy ≡ false → 0 < length v.claims → n ≢ 0
        → length s.homes ≡ 1 → total holding s.views ≡ 0
        → Holds record { words = set s.words 0 n; homes = set s.homes 0 none; views = set s.views id (seized k.log) }
    seizes_free s k n at idle claims nz one none_holds =
        let here : get_or (set s.words 0 n) 0 0 ≡ n = word_here s.words n k.wide in
        let f = k.fits id v at in
        let idle_now : holding v ≡ 0 = ap (λ b. let m : ℕ = cond b 1 0 in m) idle in
        moved s k (set s.words 0 n) (set s.homes 0 none) k.log id v (seized k.log) at ((λ p. refl), refl) refl
        (length-set s.words 0 n ∙ k.wide) k.lawful k.callers
        record {
          told = f.told;
          begins = begins_refl k.log;
          fair = record { lawful = k.lawful; early = early_later k.log v.seen v.claims f.begins f.fair.early; own = f.whole };
          whole = f.whole;
          holder = λ _. (refl, claims);
        }
        (λ j u ne there. k.fits j u there)
        (λ z. absurd (nz (sym here ∙ z)))
        (λ _. (omega (arith, total-set holding s.views id v (seized k.log) at), set_here s.homes 0 none (omega arith)))

    -- to take the word, or find it taken
    seizes : (f : ℕ → ℕ) → f 0 ≢ 0 → ((n : ℕ) → n ≢ 0 → f n ≢ 0) → v.busy ≡ false → 0 < length v.claims
        → Allows Holds 1 id (v, []) 0 f (Tries by legal stands (step 1 0 0 0 none) (v, []))
    seizes f from_zero from_taken idle claims s k one at fits =
        let n : ℕ = get_or s.words 0 0 in
        dite (ℕ_discrete n 0)
        (λ z.
        let open_slot = k.free z in
        let x : T = open_slot.1.0 in
        let fit = k.fits id v at in
        let told : (a : A) → v.about ≡ Some a → key ≡ a = λ a is. sym (fit.told a is) in
        let fair : Fair by (legal key) (seized k.log) =
        record { lawful = k.lawful; early = early_later k.log v.seen v.claims fit.begins fit.fair.early; own = fit.whole }
        in (
          seized k.log,
          takes 0 (Some x),
          open_slot.1.1,
          seizes_free s k (f n) at idle claims (λ e. from_zero (ap f (sym z) ∙ e)) one open_slot.0,
          (
            λ _. record {
              value = x;
              seen = k.log;
              now = refl;
              longer = fit.begins;
              rests = λ a is. subst (λ b. stands b x k.log) (told a is) open_slot.1.2;
              fair = λ a is. subst (λ b. Fair by (legal b) (seized k.log)) (told a is) fair;
            },
            λ nz. absurd (nz z),
          ),
        ))
        (λ nz. (
          v,
          keeps,
          tt,
          unmoved s k (f n) id v at (λ e. absurd (from_taken n nz e)) (λ e. absurd (nz e)),
          ((λ z. absurd (nz z)), λ _. refl),
        ))

    -- while a view holds, the word is taken, and it alone holds
    held : (s : Table) (k : Holds s) → get_elem? s.views id ≡ some v → v.busy ≡ true → (holding v ≡ 1) × (total holding s.views ≡ 1)
    held s k at busy =
        let one : holding v ≡ 1 = ap (λ b. let m : ℕ = cond b 1 0 in m) busy in
        let some_hold : 1 ≤ total holding s.views = omega (arith, term_le holding s.views id v at) in
        (one, (k.taken (λ z. let none_hold = (k.free z).0 in absurd (omega arith))).0)

    released : (s : Table) (k : Holds s) → get_elem? s.views id ≡ some v → v.busy ≡ true → (w : SeatView E A) → holding w ≡ 0 → total holding (set s.views id w) ≡ 0
    released s k at busy w idle = let h = held s k at busy in omega (arith, total-set holding s.views id v w at)

    -- to give both back unchanged
    returns : (a : A) (x : T) → v.about ≡ Some a → v.busy ≡ true → stands a x v.seen
        → Allows Holds 1 id (v, (0, Some x) ∷ []) 0 (λ _. 0) (Returns (step 1 0 0 0 none) (v, (0, Some x) ∷ []))
    returns a x is busy rests s k one at fits =
        let fit = k.fits id v at in
        let w : SeatView E A = view v.about v.seen v.claims false v.count in
        let hs : List (mathlib.Core.Option.Option (Option T)) = set s.homes 0 (some (Some x)) in
        let same : a ≡ key = fit.told a is in
        let all : v.seen ≡ k.log = (fit.holder busy).0 in
        let at_log : stands key x k.log = subst (λ b. stands b x k.log) same (subst (stands a x) all rests) in (
          w,
          gives,
          tt,
          moved s k (set s.words 0 0) hs k.log id v w at ((λ p. refl), refl) refl
              (length-set s.words 0 0 ∙ k.wide) k.lawful k.callers
              record {
                told = fit.told;
                begins = fit.begins;
                fair = record { lawful = fit.fair.lawful; early = fit.fair.early; own = fit.fair.own };
                whole = fit.whole;
                holder = λ (h : false ≡ true). absurd (cc);
              }
              (λ j u ne there. k.fits j u there)
              (λ _. (released s k at busy w refl, (x, set_here s.homes 0 (some (Some x)) (omega arith), at_log)))
              (λ nz. absurd (nz (word_here s.words 0 k.wide))),
          refl,
        )

    entered : (c d : SeatClaim E) → v.claims ≡ c ∷ [] → d.number ≡ c.number → ((p : ℕ) → total (is_of p) (d ∷ []) ≡ claimed p v) × (length (d ∷ []) ≡ claims_in v)
    entered c d only same = (
      λ p. ap (λ n. let m : ℕ = cond (eqb n p) 1 0 + 0 in m) same ∙ ap (total (is_of p)) (sym only),
      ap length (sym only),
    )

    counted : (c : SeatClaim E) (p : ℕ) → v.claims ≡ c ∷ [] → c.number ≡ p → claimed p v ≡ 1
    counted c p only same = ap (total (is_of p)) only ∙ omega (arith, is_of-same p c same)

    -- who has a claim was admitted
    claimant : (s : Table) (k : Holds s) → get_elem? s.views id ≡ some v → (c : SeatClaim E) → v.claims ≡ c ∷ [] → (e : E) → by e ≡ c.number → IsKnown by k.count e
    claimant s k at c only e mine =
        let one : claimed (by e) v ≡ 1 = counted c (by e) only (sym mine) in
        let some_have : 1 ≤ total (claimed (by e)) s.views = omega (arith, term_le (claimed (by e)) s.views id v at) in
        let within : (out : (by e ≡ 0) ⊎ (k.count < by e)) → ⊥ = λ out. omega (arith, k.never (by e) out) in (
          dite (ℕ_discrete (by e) 0) (λ z. absurd (within (inl z))) (λ nz. omega arith),
          dite (dec_le (by e) k.count) (λ le. le) (λ n. absurd (within (inr (lt_of_not-le n)))),
        )

    -- an entry of this view's caller is nobody else's, and nobody else holds
    other_fits : (s : Table) (k : Holds s) → get_elem? s.views id ≡ some v → v.busy ≡ true → (c : SeatClaim E) → v.claims ≡ c ∷ [] → (e : E) → by e ≡ c.number
        → (j : ℕ) (u : SeatView E A) → j ≢ id → get_elem? s.views j ≡ some u → Fit (e ∷ k.log) u
    other_fits s k at busy c only e mine j u ne there =
        let fit = k.fits j u there in
        let known = claimant s k at c only e mine in
        let one : claimed (by e) v ≡ 1 = counted c (by e) only (sym mine) in
        let none : claimed (by e) u ≡ 0 = omega (arith, terms_le (claimed (by e)) s.views id j v u ne at there, k.once (by e) known.0 known.1) in
        let h = held s k at busy in
        record {
          told = fit.told;
          begins = begins_cons e k.log u.seen fit.begins;
          fair = fit.fair;
          whole = agrees_others by e k.log u.claims none fit.whole;
          holder = λ busy_too. let two : holding u ≡ 1 = ap (λ b. let m : ℕ = cond b 1 0 in m) busy_too in absurd (omega (arith, terms_le holding s.views id j v u ne at there));
        }

    -- to give both back with an entry
    adds : (a : A) (x : T) (c : SeatClaim E) (e : E) → v.about ≡ Some a → v.busy ≡ true → v.claims ≡ c ∷ [] → by e ≡ c.number
        → legal a (e ∷ v.seen) → stands a x (e ∷ v.seen)
        → Allows Holds 1 id (v, (0, Some x) ∷ []) 0 (λ _. 0) (Adds by legal e (step 1 0 0 0 none) (v, (0, Some x) ∷ []))
    adds a x c e is busy only mine lawful rests s k one at fits =
        let fit = k.fits id v at in
        let log : List E = e ∷ k.log in
        let d : SeatClaim E = claim c.number (e ∷ c.mine) c.since in
        let w : SeatView E A = view v.about (e ∷ v.seen) (d ∷ []) false v.count in
        let hs : List (mathlib.Core.Option.Option (Option T)) = set s.homes 0 (some (Some x)) in
        let same : a ≡ key = fit.told a is in
        let all : e ∷ v.seen ≡ log = ap (λ t. e ∷ t) (fit.holder busy).0 in
        let lawful_log : legal key log = subst (λ b. legal b log) same (subst (legal a) all lawful) in
        let at_log : stands key x log = subst (λ b. stands b x log) same (subst (stands a x) all rests) in
        let known : IsKnown by k.count e = claimant s k at c only e mine in
        let has_it : (h : List E) → All (Agrees by h) v.claims → All (Agrees by (e ∷ h)) (d ∷ []) =
        λ h own. All-cons (Agrees by (e ∷ h)) d [] (entries-own by c.number e h mine ∙ ap (λ t. e ∷ t) (All-head (Agrees by h) c [] (subst (All (Agrees by h)) only own))) (All-nil (Agrees by (e ∷ h)))
        in
        let fair : Fair by (legal key) w =
        record {
          lawful = subst (λ b. legal b (e ∷ v.seen)) same lawful;
          early = All-cons (Early (e ∷ v.seen)) d [] (begins_cons e v.seen c.since (All-head (Early v.seen) c [] (subst (All (Early v.seen)) only fit.fair.early))) (All-nil (Early (e ∷ v.seen)));
          own = has_it v.seen fit.fair.own;
        }
        in (
          w,
          gives,
          tt,
          moved s k (set s.words 0 0) hs log id v w at (entered c d only refl) refl
              (length-set s.words 0 0 ∙ k.wide) lawful_log (All-cons (IsKnown by k.count) e k.log known k.callers)
              record {
                told = fit.told;
                begins = ([], sym all);
                fair = fair;
                whole = has_it k.log fit.whole;
                holder = λ (h : false ≡ true). absurd (cc);
              }
              (λ j u ne there. other_fits s k at busy c only e mine j u ne there)
              (λ _. (released s k at busy w refl, (x, set_here s.homes 0 (some (Some x)) (omega arith), at_log)))
              (λ nz. absurd (nz (word_here s.words 0 k.wide))),
          (
            ap (λ cs. (view v.about (e ∷ v.seen) cs false v.count, [])) (ap (added e) (sym only)),
            λ b told. subst (λ b'. Fair by (legal b') w) (sym (fit.told b told)) fair,
          ),
        )

    -- a load, which shows that the view is fair
    looks : Allows Holds 1 id (v, []) 0 (λ n. n) (Learns by legal (step 1 0 0 0 none) (v, []))
    looks s k one at fits =
        let fit = k.fits id v at in (
          v,
          keeps,
          tt,
          unmoved s k (get_or s.words 0 0) id v at (λ e. e) (λ e. e),
          (refl, λ a is. subst (λ b. Fair by (legal b) v) (sym (fit.told a is)) fit.fair),
        )

  -- the same of any idle seat, by a compare-exchange and by a swap
  tries : (f : ℕ → ℕ) → f 0 ≢ 0 → ((n : ℕ) → n ≢ 0 → f n ≢ 0) → (slots id : ℕ) (m : Me (Option T) (SeatView E A)) → slots ≡ 1 → IsIdle m → 0 < length m.0.claims
      → Allows Holds slots id m 0 f (Tries by legal stands (step 1 0 0 0 none) m)
  tries f from_zero from_taken slots id m one idle claims =
      subst (λ k. Allows Holds k id m 0 f (Tries by legal stands (step 1 0 0 0 none) m)) (sym one)
      (subst (λ cs. Allows Holds 1 id (m.0, cs) 0 f (Tries by legal stands (step 1 0 0 0 none) (m.0, cs))) (sym idle.0) (seizes id m.0 f from_zero from_taken idle.1 claims))

  pub attempts : (slots id : ℕ) (m : Me (Option T) (SeatView E A)) → slots ≡ 1 → IsIdle m → 0 < length m.0.claims
      → Allows Holds slots id m 0 (λ n. either (eqb n 0) 1 n) (Tries by legal stands (step 1 0 0 0 none) m)
  attempts = tries (λ n. either (eqb n 0) 1 n) (λ h. absurd (omega arith)) (λ n nz. exchanged n 0 1 (λ k. k ≢ 0) (λ _ h. absurd (omega arith)) (λ _. nz))

  pub swaps : (slots id : ℕ) (m : Me (Option T) (SeatView E A)) → slots ≡ 1 → IsIdle m → 0 < length m.0.claims
      → Allows Holds slots id m 0 (λ n. 2) (Tries by legal stands (step 1 0 0 0 none) m)
  swaps = tries (λ n. 2) (λ h. absurd (omega arith)) (λ n nz h. absurd (omega arith))

  -- the same of the two steps that give back
  pub gives_back : (slots id : ℕ) (m : Me (Option T) (SeatView E A)) → slots ≡ 1 → IsUnchanged stands m
      → Allows Holds slots id m 0 (λ _. 0) (Returns (step 1 0 0 0 none) m)
  gives_back slots id m one r =
      subst (λ k. Allows Holds k id m 0 (λ _. 0) (Returns (step 1 0 0 0 none) m)) (sym one)
      (subst (λ cs. Allows Holds 1 id (m.0, cs) 0 (λ _. 0) (Returns (step 1 0 0 0 none) (m.0, cs))) (sym r.has.slot)
      (returns id m.0 r.about r.value r.has.told r.has.busy r.rests))

  pub gives_entry : (e : E) (slots id : ℕ) (m : Me (Option T) (SeatView E A)) → slots ≡ 1 → IsReady by legal stands e m
      → Allows Holds slots id m 0 (λ _. 0) (Adds by legal e (step 1 0 0 0 none) m)
  gives_entry e slots id m one r =
      subst (λ k. Allows Holds k id m 0 (λ _. 0) (Adds by legal e (step 1 0 0 0 none) m)) (sym one)
      (subst (λ cs. Allows Holds 1 id (m.0, cs) 0 (λ _. 0) (Adds by legal e (step 1 0 0 0 none) (m.0, cs))) (sym r.has.slot)
      (adds id m.0 r.about r.value r.claim e r.has.told r.has.busy r.only r.mine r.lawful r.rests))

  pub shows : (slots id : ℕ) (m : Me (Option T) (SeatView E A)) → slots ≡ 1 → m.1 ≡ []
      → Allows Holds slots id m 0 (λ n. n) (Learns by legal (step 1 0 0 0 none) m)
  shows slots id m one free =
      subst (λ k. Allows Holds k id m 0 (λ n. n) (Learns by legal (step 1 0 0 0 none) m)) (sym one)
      (subst (λ cs. Allows Holds 1 id (m.0, cs) 0 (λ n. n) (Learns by legal (step 1 0 0 0 none) (m.0, cs))) (sym free) (looks id m.0))
