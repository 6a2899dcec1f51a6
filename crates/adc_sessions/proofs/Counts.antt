-- Streams accepted by one turn after another, and faults in a row.
use Rattle.std.proofs.Common.{◌≡◌, ◌⊎◌, ◌+◌, ◌≤◌, ◌++◌, ℕ, suc, List, [], ◌∷◌, length, length-append, replicate, fold, flat_map, Option, Some, None, IfSome, refl, sym, ap, subst, ◌∙◌, inl, inr, ⊎_elim, arith}
use Rattle.std.proofs.lemmas.Grind.{flat_map-append}
use Rattle.std.proofs.lemmas.List.Sums.{sum_by-append}
use Rattle.adc_sessions.specs.declared.accept.Accept.{Accept}
use Rattle.adc_sessions.specs.declared.accept.AcceptEnd.{AcceptEnd}
use Rattle.adc_sessions.specs.declared.accept.AcceptEnd.TheVariants.{Stopped, AcceptFailed}
use Rattle.adc_sessions.specs.declared.incoming.Peer.{Peer}
use Rattle.adc_sessions.specs.Arrivals.{Arrival, came, failed, waited, Brings, who_came, streams_of, streams, faults_by, answers_of, EndsInFaults}
use Rattle.adc_sessions.specs.AcceptEnds.{LeavesAfter, AcceptsIn, OverBy, AcceptGives}
use Rattle.adc_sessions.specs.Accepted.{AcceptCause, Accepted}

LeavesAfter-none : (left : Option ℕ) → LeavesAfter left 0 left
LeavesAfter-none None = refl
LeavesAfter-none (Some left) = (left, refl, omega arith)

LeavesAfter-append : (first then last : Option ℕ) (n m : ℕ) → LeavesAfter first n then → LeavesAfter then m last → LeavesAfter first (n + m) last
LeavesAfter-append None then last n m p q = subst (λ (left : Option ℕ). LeavesAfter left m last) p q
LeavesAfter-append (Some left) then last n m p q =
    let r : LeavesAfter (Some p.0) m last = subst (λ (now : Option ℕ). LeavesAfter now m last) p.1 q in
    (r.0, r.1, omega (arith, r.2, p.2))

fold-append : {A B : Type 0} (by : B → A → B) (value : B) (xs ys : List A) → fold by value (xs ++ ys) ≡ fold by (fold by value xs) ys
fold-append by value [] ys = refl
fold-append by value (x ∷ xs) ys = fold-append by (by value x) xs ys

Brings-append : {I S : Type 0} (brings : I → Arrival S → I → Type 0) (first last : List (Arrival S)) (a b c : I) → Brings brings a first b → Brings brings b last c → Brings brings a (first ++ last) c
Brings-append brings [] last a b c p q = subst (λ x. Brings brings x last c) (sym p) q
Brings-append brings (arrival ∷ first) last a b c p q = (p.0, p.1, Brings-append brings first last p.0 b c p.2 q)

-- at most so many calls, where the parts of both states are known
abbrev PartsIn : {I T S : Type 0} → (I → Arrival S → I → Type 0) → (T → List (S × Peer) → T → Type 0) → ℕ → I → T → Option ℕ → ℕ → I → T → Option ℕ → ℕ → Type 0
PartsIn {I} {T} {S} brings starts most incoming starter left faults incoming' starter' left' faults' =
    (arrivals : List (Arrival S)) × (length arrivals ≤ most) × Brings brings incoming arrivals incoming' × starts starter (flat_map who_came arrivals) starter'
    × LeavesAfter left (streams arrivals) left' × (faults' ≡ fold faults_by faults arrivals)

module _ {I T S : Type 0} (brings : I → Arrival S → I → Type 0) (starts : T → List (S × Peer) → T → Type 0) (nothing : (a : T) → starts a [] a)
    (in_order : (a : T) (first : List (S × Peer)) (b : T) (last : List (S × Peer)) (c : T) → starts a first b → starts b last c → starts a (first ++ last) c) where
  pub AcceptsIn-none : (most : ℕ) (a : Accept I T) → AcceptsIn brings starts most a a
  AcceptsIn-none most a = ([], omega arith, refl, nothing a.starter, LeavesAfter-none a.left, refl)

  pub AcceptsIn-append : (n m most : ℕ) (a b c : Accept I T) → n + m ≤ most → AcceptsIn brings starts n a b → AcceptsIn brings starts m b c → AcceptsIn brings starts most a c
  AcceptsIn-append n m most a b c enough p q =
      let sums : streams (p.0 ++ q.0) ≡ streams p.0 + streams q.0 = sum_by-append streams_of p.0 q.0 in (
        p.0 ++ q.0,
        omega (arith, enough, p.1, q.1, length-append p.0 q.0),
        Brings-append brings p.0 q.0 a.incoming b.incoming c.incoming p.2 q.2,
        subst (λ who. starts a.starter who c.starter) (sym (flat_map-append who_came p.0 q.0)) (in_order a.starter (flat_map who_came p.0) b.starter (flat_map who_came q.0) c.starter p.3 q.3),
        subst (λ (count : ℕ). LeavesAfter a.left count c.left) (sym sums) (LeavesAfter-append a.left b.left c.left (streams p.0) (streams q.0) p.4 q.4),
        q.5 ∙ ap (λ (count : ℕ). fold faults_by count q.0) p.5 ∙ sym (fold-append faults_by a.faults p.0 q.0),
      )

  pub AcceptsIn-more : (n most : ℕ) (a b : Accept I T) → n ≤ most → AcceptsIn brings starts n a b → AcceptsIn brings starts most a b
  AcceptsIn-more n most a b enough p = (p.0, omega (arith, enough, p.1), p.2, p.3, p.4, p.5)

  -- a stream came
  pub PartsIn-came : (i i' : I) (t t' : T) (left left' : Option ℕ) (faults : ℕ) (stream : S) (peer : Peer) → brings i (came stream peer) i' → starts t ((stream, peer) ∷ []) t' → LeavesAfter left 1 left' → PartsIn brings starts 1 i t left faults i' t' left' 0
  PartsIn-came i i' t t' left left' faults stream peer brought started leaves = (came stream peer ∷ [], omega arith, (i', brought, refl), started, leaves, refl)

  -- a fault
  pub PartsIn-failed : (i i' : I) (t : T) (left : Option ℕ) (faults : ℕ) → brings i failed i' → PartsIn brings starts 1 i t left faults i' t left (faults + 1)
  PartsIn-failed i i' t left faults brought = (failed ∷ [], omega arith, (i', brought, refl), nothing t, LeavesAfter-none left, refl)

  -- none was there
  pub PartsIn-waited : (i i' : I) (t : T) (left : Option ℕ) (faults : ℕ) → brings i waited i' → PartsIn brings starts 1 i t left faults i' t left faults
  PartsIn-waited i i' t left faults brought = (waited ∷ [], omega arith, (i', brought, refl), nothing t, LeavesAfter-none left, refl)

  -- what may come out of a later state may come out of an earlier one
  pub AcceptGives-append : (n : ℕ) (a b : Accept I T) (end : AcceptEnd) → AcceptsIn brings starts n a b → AcceptGives brings starts b end → AcceptGives brings starts a end
  AcceptGives-append n a b end first gives = (n + gives.0, gives.1, AcceptsIn-append n gives.0 (n + gives.0) a b gives.1 (omega arith) first gives.2, gives.3)

-- the answers end in as many faults as were counted; all of them are faults that were not counted before, or others came first
abbrev CountsFaults : {S : Type 0} → ℕ → List (Arrival S) → Type 0
CountsFaults {S} n arrivals =
    ((k : ℕ) × (flat_map answers_of arrivals ≡ replicate k failed) × (fold faults_by n arrivals ≡ n + k))
    ⊎ ((before : List (Arrival S)) × (flat_map answers_of arrivals ≡ before ++ replicate (fold faults_by n arrivals) failed))

counts_faults : {S : Type 0} (arrivals : List (Arrival S)) (n : ℕ) → CountsFaults n arrivals
counts_faults [] n = inl (0, refl, omega arith)
counts_faults (came stream peer ∷ arrivals) n =
    ⊎_elim (λ all. inr (came stream peer ∷ [], ap (λ rest. came stream peer ∷ rest) (all.1 ∙ ap (λ (k : ℕ). replicate k failed) (omega (arith, all.2)))))
    (λ some. inr (came stream peer ∷ some.0, ap (λ rest. came stream peer ∷ rest) some.1)) (counts_faults arrivals 0)
counts_faults (failed ∷ arrivals) n =
    ⊎_elim (λ all. inl (suc all.0, ap (λ rest. failed ∷ rest) all.1, omega (arith, all.2)))
    (λ some. inr (failed ∷ some.0, ap (λ rest. failed ∷ rest) some.1)) (counts_faults arrivals (n + 1))
counts_faults (waited ∷ arrivals) n = counts_faults arrivals n

ends_in_faults : {S : Type 0} (arrivals : List (Arrival S)) → fold faults_by 0 arrivals ≡ 64 → EndsInFaults arrivals
ends_in_faults arrivals is =
    ⊎_elim (λ all. let count : all.0 ≡ 64 = omega (arith, all.2, is) in ([], all.1 ∙ ap (λ (k : ℕ). replicate k failed) count))
    (λ some. (some.0, some.1 ∙ ap (λ (k : ℕ). some.0 ++ replicate k failed) is)) (counts_faults arrivals 0)

few_of : (first later : Option ℕ) (count : ℕ) → LeavesAfter first count later → IfSome first (λ most. count ≤ most)
few_of None later count left = tt {0}
few_of (Some first) later count left = omega (arith, left.2)

all_came : (first later : Option ℕ) (count : ℕ) → LeavesAfter first count later → later ≡ Some 0 → first ≡ Some count
all_came None later count left none = cc
all_came (Some first) later count left none =
    let now : left.0 ≡ 0 = cc in
    ap (λ (n : ℕ). Some n) (omega (arith, left.2, now))

cause_of : {I T S : Type 0} (end : AcceptEnd) (stop_after : Option ℕ) (arrivals : List (Arrival S)) (later : Accept I T) → LeavesAfter stop_after (streams arrivals) later.left → later.faults ≡ fold faults_by 0 arrivals → OverBy end later → AcceptCause end stop_after arrivals
cause_of Stopped stop_after arrivals later left faults over = all_came stop_after later.left (streams arrivals) left over
cause_of AcceptFailed stop_after arrivals later left faults over = ends_in_faults arrivals (sym faults ∙ over)

-- what comes of accepting that has not begun
pub accepts-begins : {I T S : Type 0} (brings : I → Arrival S → I → Type 0) (starts : T → List (S × Peer) → T → Type 0) (incoming : I) (starter : T) (stop_after : Option ℕ) (end : AcceptEnd)
    → (most : ℕ) × (later : Accept I T) × PartsIn brings starts most incoming starter stop_after 0 later.incoming later.starter later.left later.faults × OverBy end later
    → Accepted brings starts incoming starter stop_after end
accepts-begins brings starts incoming starter stop_after end gives =
    let all = gives.2 in
    record {
      arrivals = all.0;
      incoming' = gives.1.incoming;
      starter' = gives.1.starter;
      brought = all.2;
      started = all.3;
      few = few_of stop_after gives.1.left (streams all.0) all.4;
      cause = cause_of end stop_after all.0 gives.1 all.4 all.5 gives.3;
    }
