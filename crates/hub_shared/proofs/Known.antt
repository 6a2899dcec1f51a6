-- Connections by a caller's own calls: what these say holds in the whole history.
use Rattle.std.proofs.Common.{◌≡◌, ◌∙◌, sym, ap, ap₂, refl, subst, ℕ, ◌≤◌, Bool, true, false, not, ◌&&◌, ◌||◌, ◌==◌, cond, List, [], ◌∷◌, arith}
use Rattle.std.proofs.lemmas.Bool.{false≢true, eqb-true, eq-eqb}
use Rattle.hub_rules.specs.declared.history.Call.{Call}
use Rattle.hub_rules.specs.declared.history.Call.TheVariants.{Join, Line, Quit, Take}
use Rattle.hub_rules.specs.declared.history.Entry.{Entry}
use Rattle.hub_rules.specs.Configured.{Configured}
use Rattle.hub_rules.specs.Facts.{Facts, facts}
use Rattle.hub_rules.specs.Legal.{IsOpenFor, Legal, MayCall}
use Rattle.hub_invariants.specs.OpenConnections.{has_joined, has_quit, joins_as, quits}
use Rattle.hub_invariants.proofs.Kept.{joins-grow}
use Rattle.hub_invariants.proofs.Members.{both, or-parts}
use Rattle.hub_invariants.proofs.Open.{open_are_those_that_stayed}
use Rattle.hub_invariants.proofs.Sids.{not-true}
use Rattle.hub_invariants.proofs.Sound.{or-true}
use Rattle.hub_shared.specs.Connections.{challenge_in, challenge_of, entries_of, has_stayed}
use Rattle.hub_shared.proofs.KeptJoins.{IsNew, Same, after-same, is-new}

-- ---- entries of one caller

-- what nobody quit, one caller did not quit
less-quit : (c p : ℕ) (e : Entry) (h : List Entry) (is : Bool) → has_quit c (e ∷ h) ≡ false → has_quit c (entries_of p h) ≡ false → has_quit c (cond is (e ∷ entries_of p h) (entries_of p h)) ≡ false
less-quit c p e h true none rest = ap₂ ◌||◌ (or-parts (quits c e.call) (has_quit c h) none).0 rest
less-quit c p e h false none rest = rest

pub none-quit : (c p : ℕ) (h : List Entry) → has_quit c h ≡ false → has_quit c (entries_of p h) ≡ false
none-quit c p [] none = refl
none-quit c p (e ∷ h) none = less-quit c p e h (e.caller == p) none (none-quit c p h (or-parts (quits c e.call) (has_quit c h) none).1)

-- ---- joins

-- the first part of a test that failed
rest-of : (first rest : Bool) → first ≡ false → (first || rest) ≡ true → rest ≡ true
rest-of first rest is there = ap (λ b. b || rest) (sym is) ∙ there

-- what the answer of the last entry of a legal history makes
last-new : (setup : Configured) (hash : List ℕ → List ℕ) (e : Entry) (h : List Entry) (c : ℕ) → Legal setup hash (e ∷ h) → joins_as c e.reply ≡ true
    → IsNew (facts setup hash h) (facts setup hash (e ∷ h)) e.caller e.call c
unfolding facts Legal
last-new setup hash e h c legal is = is-new setup hash (facts setup hash h) e.caller e.call c (ap (joins_as c) (sym legal.2) ∙ is)

last-same : (setup : Configured) (hash : List ℕ → List ℕ) (e : Entry) (h : List Entry) (c : ℕ) → c ≤ (facts setup hash h).joins
    → Same ((facts setup hash (e ∷ h)).about c) ((facts setup hash h).about c)
unfolding facts
last-same setup hash e h c below = after-same setup hash (facts setup hash h) e.caller e.call c below

last-grows : (setup : Configured) (hash : List ℕ → List ℕ) (e : Entry) (h : List Entry) → (facts setup hash h).joins ≤ (facts setup hash (e ∷ h)).joins
unfolding facts
last-grows setup hash e h = joins-grow setup hash (facts setup hash h) e.caller e.call

legal-before : (setup : Configured) (hash : List ℕ → List ℕ) (e : Entry) (h : List Entry) → Legal setup hash (e ∷ h) → Legal setup hash h
unfolding Legal
legal-before setup hash e h legal = legal.0

last-may : (setup : Configured) (hash : List ℕ → List ℕ) (e : Entry) (h : List Entry) → Legal setup hash (e ∷ h) → MayCall (facts setup hash h) e.caller e.call
unfolding Legal
last-may setup hash e h legal = legal.1

-- ---- one caller's connection

-- the connection is this caller's, and the caller's calls tell its challenge and whether it quit
pub record Known (setup : Configured) (hash : List ℕ → List ℕ) (p c : ℕ) (mine h : List Entry) : Type 0 where
  pub counted : c ≤ (facts setup hash h).joins
  pub joined : has_joined c h ≡ true
  pub owner : ((facts setup hash h).about c).owner ≡ p
  pub challenge : ((facts setup hash h).about c).sender.challenge ≡ challenge_in c mine
  pub quit : has_quit c h ≡ has_quit c mine

-- nobody quits what a new join made
pub new-quit : (setup : Configured) (hash : List ℕ → List ℕ) (e : Entry) (h : List Entry) (c : ℕ) → Legal setup hash (e ∷ h) → joins_as c e.reply ≡ true → has_quit c (e ∷ h) ≡ false
new-quit setup hash e h c legal is =
    let new = last-new setup hash e h c legal is in
    not-true (has_quit c (e ∷ h)) (both (has_joined c (e ∷ h)) (not (has_quit c (e ∷ h))) (sym (open_are_those_that_stayed setup hash (e ∷ h) legal c) ∙ new.there)).1

known-new : (setup : Configured) (hash : List ℕ → List ℕ) (e : Entry) (h : List Entry) (p c : ℕ) → Legal setup hash (e ∷ h) → e.caller ≡ p → joins_as c e.reply ≡ true
    → Known setup hash p c (e ∷ entries_of p h) (e ∷ h)
known-new setup hash e h p c legal by is =
    let new = last-new setup hash e h c legal is in
    let none = new-quit setup hash e h c legal is in
    let none_before = (or-parts (quits c e.call) (has_quit c h) none).1 in
    record {
      counted = omega (arith, new.next, new.counted);
      joined = ap (λ b. b || has_joined c h) is;
      owner = new.owner ∙ by;
      challenge = new.challenge ∙ ap (λ b. cond b (challenge_of e.call) (challenge_in c (entries_of p h))) (sym is);
      quit = ap (λ b. quits c e.call || b) (none_before ∙ sym (none-quit c p h none_before));
    }

known-later : (setup : Configured) (hash : List ℕ → List ℕ) (e : Entry) (h : List Entry) (p c : ℕ) → joins_as c e.reply ≡ false → Known setup hash p c (entries_of p h) h
    → Known setup hash p c (e ∷ entries_of p h) (e ∷ h)
known-later setup hash e h p c is k =
    let kept = last-same setup hash e h c k.counted in
    record {
      counted = omega (arith, k.counted, last-grows setup hash e h);
      joined = ap (λ b. joins_as c e.reply || b) k.joined ∙ or-true (joins_as c e.reply);
      owner = kept.owner ∙ k.owner;
      challenge = kept.challenge ∙ k.challenge ∙ ap (λ b. cond b (challenge_of e.call) (challenge_in c (entries_of p h))) (sym is);
      quit = ap (λ b. quits c e.call || b) k.quit;
    }

-- a connection is quit by its own caller
quits-own : (f : Facts) (p c caller : ℕ) (call : Call) (is : Bool) → quits c call ≡ is → MayCall f caller call → (f.about c).owner ≡ p → (caller == p) ≡ false → is ≡ false
quits-own f p c caller (Quit d) true is may owner other =
    absurd (false≢true (sym other ∙ eq-eqb caller p (sym may.1 ∙ ap (λ x. (f.about x).owner) (eqb-true d c is) ∙ owner)))
quits-own f p c caller (Join peer challenge now) true is may owner other = absurd (false≢true is)
quits-own f p c caller (Line d bytes now) true is may owner other = absurd (false≢true is)
quits-own f p c caller (Take d count) true is may owner other = absurd (false≢true is)
quits-own f p c caller call false is may owner other = refl

known-other : (setup : Configured) (hash : List ℕ → List ℕ) (e : Entry) (h : List Entry) (p c : ℕ) → Legal setup hash (e ∷ h) → (e.caller == p) ≡ false → Known setup hash p c (entries_of p h) h
    → Known setup hash p c (entries_of p h) (e ∷ h)
known-other setup hash e h p c legal other k =
    let kept = last-same setup hash e h c k.counted in
    record {
      counted = omega (arith, k.counted, last-grows setup hash e h);
      joined = ap (λ b. joins_as c e.reply || b) k.joined ∙ or-true (joins_as c e.reply);
      owner = kept.owner ∙ k.owner;
      challenge = kept.challenge ∙ k.challenge;
      quit = ap (λ b. b || has_quit c h) (quits-own (facts setup hash h) p c e.caller e.call (quits c e.call) refl (last-may setup hash e h legal) k.owner other) ∙ k.quit;
    }

known-mine : (setup : Configured) (hash : List ℕ → List ℕ) (e : Entry) (h : List Entry) (p c : ℕ) → Legal setup hash (e ∷ h) → e.caller ≡ p
    → (has_joined c (entries_of p h) ≡ true → Known setup hash p c (entries_of p h) h) → (is : Bool) → joins_as c e.reply ≡ is
    → has_joined c (e ∷ entries_of p h) ≡ true → Known setup hash p c (e ∷ entries_of p h) (e ∷ h)
known-mine setup hash e h p c legal by before true is there = known-new setup hash e h p c legal by is
known-mine setup hash e h p c legal by before false is there =
    known-later setup hash e h p c is (before (rest-of (joins_as c e.reply) (has_joined c (entries_of p h)) is there))

known-by : (setup : Configured) (hash : List ℕ → List ℕ) (e : Entry) (h : List Entry) (p c : ℕ) → Legal setup hash (e ∷ h)
    → (has_joined c (entries_of p h) ≡ true → Known setup hash p c (entries_of p h) h) → (is : Bool) → (e.caller == p) ≡ is
    → has_joined c (cond is (e ∷ entries_of p h) (entries_of p h)) ≡ true → Known setup hash p c (cond is (e ∷ entries_of p h) (entries_of p h)) (e ∷ h)
known-by setup hash e h p c legal before true is there = known-mine setup hash e h p c legal (eqb-true e.caller p is) before (joins_as c e.reply) refl there
known-by setup hash e h p c legal before false is there = known-other setup hash e h p c legal is (before there)

pub is-known : (setup : Configured) (hash : List ℕ → List ℕ) (h : List Entry) → Legal setup hash h → (p c : ℕ) → has_joined c (entries_of p h) ≡ true
    → Known setup hash p c (entries_of p h) h
is-known setup hash [] legal p c there = absurd (false≢true there)
is-known setup hash (e ∷ h) legal p c there =
    known-by setup hash e h p c legal (is-known setup hash h (legal-before setup hash e h legal) p c) (e.caller == p) refl there

-- a caller may make calls of its open connections, each of which has the challenge of its join
pub record Mine (setup : Configured) (hash : List ℕ → List ℕ) (p c : ℕ) (mine h : List Entry) : Type 0 where
  pub may : IsOpenFor (facts setup hash h) p c
  pub challenge : ((facts setup hash h).about c).sender.challenge ≡ challenge_in c mine

stays-mine : (setup : Configured) (hash : List ℕ → List ℕ) (h : List Entry) → Legal setup hash h → (p c : ℕ) → has_stayed c (entries_of p h) ≡ true
    → Mine setup hash p c (entries_of p h) h
stays-mine setup hash h legal p c stays =
    let parts = both (has_joined c (entries_of p h)) (not (has_quit c (entries_of p h))) stays in
    let k = is-known setup hash h legal p c parts.0 in
    record {
      may = (open_are_those_that_stayed setup hash h legal c ∙ ap₂ (λ a b. a && not b) k.joined (k.quit ∙ not-true (has_quit c (entries_of p h)) parts.1), k.owner);
      challenge = k.challenge;
    }

pub is-mine : (setup : Configured) (hash : List ℕ → List ℕ) (h mine : List Entry) (p c : ℕ) → Legal setup hash h → entries_of p h ≡ mine → has_stayed c mine ≡ true
    → Mine setup hash p c mine h
is-mine setup hash h mine p c legal are stays =
    subst (λ es. Mine setup hash p c es h) are (stays-mine setup hash h legal p c (ap (has_stayed c) are ∙ stays))
