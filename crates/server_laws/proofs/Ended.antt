-- A connection that was told that nothing will follow has taken all that it is ever owed.
use Rattle.std.proofs.Common.{◌≡◌, ◌∙◌, sym, ap, ap₂, refl, subst, ℕ, ◌+◌, ◌≤◌, Bool, true, false, not, ◌&&◌, ◌==◌, ◌||◌, cond, List, [], ◌∷◌, ◌++◌, length, length-drop, take, take_all, append-nil, arith}
use Rattle.std.specs.Prelude.{nat_le}
use Rattle.std.specs.List.{list_any}
use Rattle.std.proofs.lemmas.Bool.{false≢true, eqb-true, eq-eqb, leb-true}
use Rattle.login_state.specs.declared.stage.Stage.{Stage}
use Rattle.login_state.specs.declared.stage.Stage.TheVariants as stages
use Rattle.hub_rules.specs.declared.history.Call.{Call}
use Rattle.hub_rules.specs.declared.history.Call.TheVariants.{Join, Line, Quit, Take}
use Rattle.hub_rules.specs.declared.history.Entry.{Entry}
use Rattle.hub_rules.specs.declared.history.Reply.{Reply}
use Rattle.hub_rules.specs.declared.history.Reply.TheVariants.{Took}
use Rattle.hub_rules.specs.Configured.{Configured}
use Rattle.hub_rules.specs.Effects.{is_over}
use Rattle.hub_rules.specs.Facts.{Facts, facts, after, with_lines_taken, with_one}
use Rattle.hub_rules.specs.History.{lines_owed, count_taken, lags, stage}
use Rattle.hub_invariants.specs.Lag.{all_fit, share, shares_that_fit}
use Rattle.hub_rules.specs.Legal.{Legal, MayCall, reply, take_reply, has_ended}
use Rattle.hub_invariants.specs.Promises.{taken_in, lines_taken}
use Rattle.hub_rules.specs.Shares.{ConnState, waiting}
use Rattle.hub_invariants.proofs.Calls.{sound_of}
use Rattle.hub_invariants.proofs.Kept.{joins-grow, taken_is_the_sum}
use Rattle.hub_invariants.proofs.Members.{both}
use Rattle.hub_invariants.proofs.Sids.{not-true}
use Rattle.hub_invariants.proofs.Sound.{Sound, or-true}
use Rattle.hub_laws.proofs.Lag.{given-nothing, lag_is_the_first, owed_are_shares, share-beyond}
use Rattle.hub_laws.proofs.ShutOut.{out_is_for_good}
use Rattle.hub_shared.specs.Connections.{entries_of}

-- ---- takes that were told so

abbrev pub told_so : Bool → Reply → Bool
told_so true (Took bytes given ended) = ended
told_so same reply = false

abbrev pub is_ended_by : ℕ → Call → Reply → Bool
is_ended_by c (Take d count) reply = told_so (d == c) reply
is_ended_by c call reply = false

abbrev pub has_ended_in : ℕ → List Entry → Bool
has_ended_in c h = list_any (λ (e : Entry). is_ended_by c e.call e.reply) h

more-ended : (c p : ℕ) (e : Entry) (h : List Entry) (is : Bool) → (has_ended_in c (entries_of p h) ≡ true → has_ended_in c h ≡ true) → (now : Bool) → is_ended_by c e.call e.reply ≡ now
    → has_ended_in c (cond is (e ∷ entries_of p h) (entries_of p h)) ≡ true → (now || has_ended_in c h) ≡ true
more-ended c p e h is before true same there = refl
more-ended c p e h true before false same there = before (sym (ap (λ b. b || has_ended_in c (entries_of p h)) same) ∙ there)
more-ended c p e h false before false same there = before there

-- what one caller was told was told
pub ended-by : (c p : ℕ) (h : List Entry) → has_ended_in c (entries_of p h) ≡ true → has_ended_in c h ≡ true
ended-by c p [] there = there
ended-by c p (e ∷ h) there =
    more-ended c p e h (e.caller == p) (ended-by c p h) (is_ended_by c e.call e.reply) refl there

is-gone : (s : Stage) → is_over s ≡ true → s ≡ stages.Gone
is-gone stages.Gone is = refl
is-gone _ is = absurd (false≢true is)

-- all that it is owed was taken, and no call will owe it more
pub record Spent (a : ConnState) : Type 0 where
  pub shut : (is_over a.stage || a.lags) ≡ true
  pub all : length a.owed ≤ a.taken

pub record IsSpent (f : Facts) (c : ℕ) : Type 0 where
  pub old : c ≤ f.joins
  pub its : Spent (f.about c)

module _ (setup : Configured) (hash : List ℕ → List ℕ) where
  -- ---- a call more

  abbrev added : Entry → List Entry → ℕ → List (List ℕ)
  added e h c = cond (all_fit setup hash (e ∷ h) c) (share setup hash (facts setup hash h) c e.call) []

  later-owed : (e : Entry) (h : List Entry) (c : ℕ) → lines_owed setup hash (e ∷ h) c ≡ lines_owed setup hash h c ++ added e h c
  unfolding shares_that_fit
  later-owed e h c = owed_are_shares setup hash (e ∷ h) c ∙ ap (λ ls. ls ++ added e h c) (sym (owed_are_shares setup hash h c))

  not-fit : (e : Entry) (h : List Entry) (c : ℕ) → lags setup hash h c ≡ true → all_fit setup hash (e ∷ h) c ≡ false
  unfolding all_fit
  not-fit e h c is = ap₂ ◌&&◌ (not-true (all_fit setup hash h c) (sym (lag_is_the_first setup hash h c) ∙ is)) refl

  no-more : (e : Entry) (h : List Entry) (c : ℕ) (over lag : Bool) → is_over (stage setup hash h c) ≡ over → lags setup hash h c ≡ lag → (over || lag) ≡ true → added e h c ≡ []
  no-more e h c true lag over is shut =
      ap (λ ls. cond (all_fit setup hash (e ∷ h) c) ls []) (share-beyond setup hash (facts setup hash h) c e.call over) ∙ given-nothing (all_fit setup hash (e ∷ h) c)
  no-more e h c false true over is shut = ap (λ b. cond b (share setup hash (facts setup hash h) c e.call) []) (not-fit e h c is)
  no-more e h c false false over is shut = absurd (false≢true shut)

  still-shut : (e : Entry) (h : List Entry) (c : ℕ) → c ≤ (facts setup hash h).joins → (over lag : Bool) → is_over (stage setup hash h c) ≡ over → lags setup hash h c ≡ lag
      → (over || lag) ≡ true → (is_over (stage setup hash (e ∷ h) c) || lags setup hash (e ∷ h) c) ≡ true
  still-shut e h c old true lag over is shut =
      ap (λ s. is_over s || lags setup hash (e ∷ h) c) (out_is_for_good setup hash (e ∷ []) h c old (is-gone (stage setup hash h c) over))
  still-shut e h c old false true over is shut =
      ap (λ l. is_over (stage setup hash (e ∷ h) c) || l) (lag_is_the_first setup hash (e ∷ h) c ∙ ap not (not-fit e h c is)) ∙ or-true (is_over (stage setup hash (e ∷ h) c))
  still-shut e h c old false false over is shut = absurd (false≢true shut)

  legal-before : (e : Entry) (h : List Entry) → Legal setup hash (e ∷ h) → Legal setup hash h
  unfolding Legal
  legal-before e h legal = legal.0

  later-joins : (e : Entry) (h : List Entry) → (facts setup hash h).joins ≤ (facts setup hash (e ∷ h)).joins
  unfolding facts
  later-joins e h = joins-grow setup hash (facts setup hash h) e.caller e.call

  later-taken : (e : Entry) (h : List Entry) (c : ℕ) → Legal setup hash (e ∷ h) → count_taken setup hash (e ∷ h) c ≡ count_taken setup hash h c + lines_taken c e.call e.reply
  unfolding taken_in
  later-taken e h c legal =
      taken_is_the_sum setup hash (e ∷ h) legal c ∙ ap (λ n. n + lines_taken c e.call e.reply) (sym (taken_is_the_sum setup hash h (legal-before e h legal) c))

  stays-spent : (e : Entry) (h : List Entry) (c : ℕ) → Legal setup hash (e ∷ h) → IsSpent (facts setup hash h) c → IsSpent (facts setup hash (e ∷ h)) c
  stays-spent e h c legal s =
      let owed : lines_owed setup hash (e ∷ h) c ≡ lines_owed setup hash h c =
      later-owed e h c ∙ ap (λ ls. lines_owed setup hash h c ++ ls) (no-more e h c (is_over (stage setup hash h c)) (lags setup hash h c) refl refl s.its.shut)
      ∙ append-nil (lines_owed setup hash h c) in
      record {
        old = omega (arith, s.old, later-joins e h);
        its = record {
          shut = still-shut e h c s.old (is_over (stage setup hash h c)) (lags setup hash h c) refl refl s.its.shut;
          all = omega (arith, ap (λ (ls : List (List ℕ)). length ls) owed, s.its.all, later-taken e h c legal);
        };
      }

  -- ---- the take that was told so

  all-waiting : (count : ℕ) (a : ConnState) → has_ended count a ≡ true → Spent (with_lines_taken count a)
  all-waiting count a is =
      let parts = both (nat_le (length (waiting a)) count) (is_over a.stage || a.lags) is in
      let few : length (waiting a) ≤ count = leb-true (length (waiting a)) count parts.0 in
      record {
        shut = parts.1;
        all = omega (arith, length-drop a.taken a.owed, ap (λ (ls : List (List ℕ)). length ls) (take_all count (waiting a) few));
      }

  own-ends : (f : Facts) (c count : ℕ) → has_ended count (f.about c) ≡ true → Spent (with_one c (with_lines_taken count) f.about c)
  own-ends f c count is =
      subst Spent (ap (λ b. cond b (with_lines_taken count (f.about c)) (f.about c)) (sym (eq-eqb c c refl))) (all-waiting count (f.about c) is)

  take-ends : (f : Facts) (c d count : ℕ) (same : Bool) → (d == c) ≡ same → d ≤ f.joins → told_so same (take_reply count (f.about d)) ≡ true
      → IsSpent (record f { about = with_one d (with_lines_taken count) f.about }) c
  take-ends f c d count true is old told =
      subst (IsSpent (record f { about = with_one d (with_lines_taken count) f.about })) (eqb-true d c is) (record { old = old; its = own-ends f d count told })
  take-ends f c d count false is old told = absurd (false≢true told)

  ends-now : (f : Facts) (caller c : ℕ) (call : Call) → Sound f → MayCall f caller call → is_ended_by c call (reply setup hash f caller call) ≡ true
      → IsSpent (after setup hash f caller call) c
  unfolding after reply
  ends-now f caller c (Take d count) sound may told = take-ends f c d count (d == c) refl (sound.counted d may.0) told
  ends-now f caller c (Join peer challenge now) sound may told = absurd (false≢true told)
  ends-now f caller c (Line d bytes now) sound may told = absurd (false≢true told)
  ends-now f caller c (Quit d) sound may told = absurd (false≢true told)

  last-ends : (e : Entry) (h : List Entry) (c : ℕ) → Legal setup hash (e ∷ h) → is_ended_by c e.call e.reply ≡ true → IsSpent (facts setup hash (e ∷ h)) c
  unfolding facts Legal
  last-ends e h c legal told = ends-now (facts setup hash h) e.caller c e.call (sound_of setup hash h) legal.1 (ap (is_ended_by c e.call) (sym legal.2) ∙ told)

  spent-by : (e : Entry) (h : List Entry) (c : ℕ) → Legal setup hash (e ∷ h) → (has_ended_in c h ≡ true → IsSpent (facts setup hash h) c)
      → (now : Bool) → is_ended_by c e.call e.reply ≡ now → (now || has_ended_in c h) ≡ true → IsSpent (facts setup hash (e ∷ h)) c
  spent-by e h c legal before true is there = last-ends e h c legal is
  spent-by e h c legal before false is there = stays-spent e h c legal (before there)

  spent-of : (h : List Entry) (c : ℕ) → Legal setup hash h → has_ended_in c h ≡ true → IsSpent (facts setup hash h) c
  spent-of [] c legal there = absurd (false≢true there)
  spent-of (e ∷ h) c legal there = spent-by e h c legal (spent-of h c (legal-before e h legal)) (is_ended_by c e.call e.reply) refl there

  -- who was told that nothing will follow took all that it is owed
  pub all-taken : (h : List Entry) (c : ℕ) → Legal setup hash h → has_ended_in c h ≡ true → take (count_taken setup hash h c) (lines_owed setup hash h c) ≡ lines_owed setup hash h c
  all-taken h c legal there = take_all (count_taken setup hash h c) (lines_owed setup hash h c) (spent-of h c legal there).its.all
