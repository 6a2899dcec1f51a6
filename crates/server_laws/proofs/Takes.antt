-- What a connection takes is taken by the caller that joined it.
use Rattle.std.proofs.Common.{◌≡◌, ◌∙◌, sym, ap, ap₂, refl, ℕ, ◌+◌, Bool, true, false, ◌==◌, ◌||◌, cond, List, [], ◌∷◌, ◌++◌, take, arith, append-nil, append_assoc}
use Rattle.std.specs.List.{concat}
use Rattle.std.proofs.lemmas.Bool.{false≢true, eqb-true, eq-eqb}
use Rattle.hub_rules.specs.declared.history.Call.{Call}
use Rattle.hub_rules.specs.declared.history.Call.TheVariants.{Join, Line, Quit, Take}
use Rattle.hub_rules.specs.declared.history.Entry.{Entry}
use Rattle.hub_rules.specs.declared.history.Reply.{Reply}
use Rattle.hub_rules.specs.Configured.{Configured}
use Rattle.hub_rules.specs.Facts.{Facts, facts}
use Rattle.hub_rules.specs.Legal.{Legal, MayCall}
use Rattle.hub_invariants.specs.OpenConnections.{has_joined, joins_as}
use Rattle.hub_invariants.proofs.Kept.{fresh-taken}
use Rattle.hub_laws.specs.Delivery.{bytes_taken, bytes_of_take, bytes_delivered}
use Rattle.hub_laws.proofs.Delivery.{delivered_are_the_first}
use Rattle.hub_shared.specs.Connections.{entries_of}
use Rattle.hub_shared.proofs.KeptJoins.{is-new}
use Rattle.hub_shared.proofs.Known.{is-known}

-- ---- what takes delivered

no-parts : (xs ys : List ℕ) → xs ++ ys ≡ [] → (xs ≡ []) × (ys ≡ [])
no-parts [] ys none = (refl, none)
no-parts (x ∷ xs) ys none = cc

pub delivered-none : (c : ℕ) → bytes_delivered c [] ≡ []
unfolding bytes_delivered
delivered-none c = refl

pub delivered-more : (c : ℕ) (e : Entry) (h : List Entry) → bytes_delivered c (e ∷ h) ≡ bytes_delivered c h ++ bytes_taken c e.call e.reply
unfolding bytes_delivered
delivered-more c e h = refl

pub delivered-append : (c : ℕ) (later earlier : List Entry) → bytes_delivered c (later ++ earlier) ≡ bytes_delivered c earlier ++ bytes_delivered c later
delivered-append c [] earlier = sym (ap (λ bs. bytes_delivered c earlier ++ bs) (delivered-none c) ∙ append-nil (bytes_delivered c earlier))
delivered-append c (e ∷ later) earlier =
    delivered-more c e (later ++ earlier) ∙ ap (λ bs. bs ++ bytes_taken c e.call e.reply) (delivered-append c later earlier)
    ∙ append_assoc (bytes_delivered c earlier) (bytes_delivered c later) (bytes_taken c e.call e.reply)
    ∙ ap (λ bs. bytes_delivered c earlier ++ bs) (sym (delivered-more c e later))

none-by : (c p : ℕ) (e : Entry) (h : List Entry) (is : Bool) → bytes_delivered c (entries_of p h) ≡ [] → bytes_taken c e.call e.reply ≡ []
    → bytes_delivered c (cond is (e ∷ entries_of p h) (entries_of p h)) ≡ []
none-by c p e h true before now = delivered-more c e (entries_of p h) ∙ ap₂ ◌++◌ before now
none-by c p e h false before now = before

-- what nobody took one caller did not take
delivered-less : (c p : ℕ) (h : List Entry) → bytes_delivered c h ≡ [] → bytes_delivered c (entries_of p h) ≡ []
delivered-less c p [] none = none
delivered-less c p (e ∷ h) none =
    let parts = no-parts (bytes_delivered c h) (bytes_taken c e.call e.reply) (sym (delivered-more c e h) ∙ none) in
    none-by c p e h (e.caller == p) (delivered-less c p h parts.0) parts.1

-- ---- legal histories

legal-before : (setup : Configured) (hash : List ℕ → List ℕ) (e : Entry) (h : List Entry) → Legal setup hash (e ∷ h) → Legal setup hash h
unfolding Legal
legal-before setup hash e h legal = legal.0

last-may : (setup : Configured) (hash : List ℕ → List ℕ) (e : Entry) (h : List Entry) → Legal setup hash (e ∷ h) → MayCall (facts setup hash h) e.caller e.call
unfolding Legal
last-may setup hash e h legal = legal.1

-- a join that is accepted is of the next connection
last-next : (setup : Configured) (hash : List ℕ → List ℕ) (e : Entry) (h : List Entry) (c : ℕ) → Legal setup hash (e ∷ h) → joins_as c e.reply ≡ true → c ≡ (facts setup hash h).joins + 1
unfolding Legal
last-next setup hash e h c legal is = (is-new setup hash (facts setup hash h) e.caller e.call c (ap (joins_as c) (sym legal.2) ∙ is)).next

-- who joins as the next connection has not joined as it before
not-before : (setup : Configured) (hash : List ℕ → List ℕ) (h : List Entry) (p c : ℕ) → Legal setup hash h → c ≡ (facts setup hash h).joins + 1
    → (is : Bool) → has_joined c (entries_of p h) ≡ is → is ≡ false
not-before setup hash h p c legal next true is = absurd (omega (arith, next, (is-known setup hash h legal p c is).counted))
not-before setup hash h p c legal next false is = refl

-- each connection is joined once
abbrev pub JoinsOnce : ℕ → List Entry → Type 0
JoinsOnce c [] = Unit {0}
JoinsOnce c (e ∷ es) = (joins_as c e.reply ≡ true → has_joined c es ≡ false) × JoinsOnce c es

once-by : (setup : Configured) (hash : List ℕ → List ℕ) (e : Entry) (h : List Entry) (p c : ℕ) (is : Bool) → Legal setup hash (e ∷ h) → JoinsOnce c (entries_of p h)
    → JoinsOnce c (cond is (e ∷ entries_of p h) (entries_of p h))
once-by setup hash e h p c true legal rest =
    (λ joins. not-before setup hash h p c (legal-before setup hash e h legal) (last-next setup hash e h c legal joins) (has_joined c (entries_of p h)) refl, rest)
once-by setup hash e h p c false legal rest = rest

pub joins-once : (setup : Configured) (hash : List ℕ → List ℕ) (h : List Entry) → Legal setup hash h → (p c : ℕ) → JoinsOnce c (entries_of p h)
joins-once setup hash [] legal p c = tt
joins-once setup hash (e ∷ h) legal p c =
    once-by setup hash e h p c (e.caller == p) legal (joins-once setup hash h (legal-before setup hash e h legal) p c)

-- ---- the takes of a connection are its caller's

taken-others : (f : Facts) (p c d caller : ℕ) (reply : Reply) (is : Bool) → (d == c) ≡ is → (f.about d).owner ≡ caller → (f.about c).owner ≡ p → (caller == p) ≡ false
    → bytes_of_take is reply ≡ []
taken-others f p c d caller reply true is may owner other =
    absurd (false≢true (sym other ∙ eq-eqb caller p (sym may ∙ ap (λ x. (f.about x).owner) (eqb-true d c is) ∙ owner)))
taken-others f p c d caller reply false is may owner other = refl

taken-other : (f : Facts) (p c caller : ℕ) (call : Call) (reply : Reply) → MayCall f caller call → (f.about c).owner ≡ p → (caller == p) ≡ false → bytes_taken c call reply ≡ []
taken-other f p c caller (Take d count) reply may owner other = taken-others f p c d caller reply (d == c) refl may.1 owner other
taken-other f p c caller (Join peer challenge now) reply may owner other = refl
taken-other f p c caller (Line d bytes now) reply may owner other = refl
taken-other f p c caller (Quit d) reply may owner other = refl

module _ (setup : Configured) (hash : List ℕ → List ℕ) where
  -- nobody took anything for a connection before its join
  none-before : (h : List Entry) (c : ℕ) → Legal setup hash h → c ≡ (facts setup hash h).joins + 1 → bytes_delivered c h ≡ []
  none-before h c legal next =
      let about = (facts setup hash h).about c in
      delivered_are_the_first setup hash h legal c ∙ ap (λ n. concat (take n about.owed)) (fresh-taken setup hash h legal c (omega (arith, next)))

  by-mine : (e : Entry) (h : List Entry) (p c : ℕ) → Legal setup hash (e ∷ h) → (has_joined c (entries_of p h) ≡ true → bytes_delivered c h ≡ bytes_delivered c (entries_of p h))
      → (is : Bool) → joins_as c e.reply ≡ is → (is || has_joined c (entries_of p h)) ≡ true → bytes_delivered c h ≡ bytes_delivered c (entries_of p h)
  by-mine e h p c legal before true is there =
      let none = none-before h c (legal-before setup hash e h legal) (last-next setup hash e h c legal is) in
      none ∙ sym (delivered-less c p h none)
  by-mine e h p c legal before false is there = before there

  by-one : (e : Entry) (h : List Entry) (p c : ℕ) → Legal setup hash (e ∷ h) → (has_joined c (entries_of p h) ≡ true → bytes_delivered c h ≡ bytes_delivered c (entries_of p h))
      → (is : Bool) → (e.caller == p) ≡ is → has_joined c (cond is (e ∷ entries_of p h) (entries_of p h)) ≡ true
      → bytes_delivered c (e ∷ h) ≡ bytes_delivered c (cond is (e ∷ entries_of p h) (entries_of p h))
  by-one e h p c legal before true is there =
      delivered-more c e h ∙ ap (λ bs. bs ++ bytes_taken c e.call e.reply) (by-mine e h p c legal before (joins_as c e.reply) refl there)
      ∙ sym (delivered-more c e (entries_of p h))
  by-one e h p c legal before false is there =
      let owner = (is-known setup hash h (legal-before setup hash e h legal) p c there).owner in
      delivered-more c e h ∙ ap₂ ◌++◌ (before there) (taken-other (facts setup hash h) p c e.caller e.call e.reply (last-may setup hash e h legal) owner is)
      ∙ append-nil (bytes_delivered c (entries_of p h))

  pub delivered-by : (h : List Entry) → Legal setup hash h → (p c : ℕ) → has_joined c (entries_of p h) ≡ true → bytes_delivered c h ≡ bytes_delivered c (entries_of p h)
  delivered-by [] legal p c there = absurd (false≢true there)
  delivered-by (e ∷ h) legal p c there =
      by-one e h p c legal (delivered-by h (legal-before setup hash e h legal) p c) (e.caller == p) refl there
