-- A call changes neither who joined a connection nor the challenge that it was given.
use Rattle.hub_invariants.proofs.CallCases.{about-parts}
use Rattle.std.proofs.Common.{◌≡◌, ◌∙◌, sym, ap, refl, ℕ, ◌+◌, ◌≤◌, Bool, true, false, ◌&&◌, ◌||◌, ◌==◌, List, [], ◌∷◌, ◌++◌, arith, cond, subst}
use Rattle.std.proofs.lemmas.Bool.{false≢true, eqb-true, eq-eqb}
use Rattle.hub_rules.specs.declared.effect.Effect.{Effect}
use Rattle.hub_rules.specs.declared.history.Call.{Call}
use Rattle.hub_rules.specs.declared.history.Call.TheVariants.{Join, Line, Quit, Take}
use Rattle.hub_rules.specs.Configured.{Configured}
use Rattle.hub_rules.specs.Effects.{departure}
use Rattle.hub_rules.specs.Facts.{Facts, after, with_connection, without_connection, happens, with_lines_taken, has_place, has_joins, newcomer, next_sid, effect_of_line}
use Rattle.hub_rules.specs.Legal.{join_reply, reply}
use Rattle.hub_invariants.specs.OpenConnections.{joins_as, quits}
use Rattle.hub_rules.specs.Shares.{ConnState}
use Rattle.hub_invariants.proofs.Members.{has, has-append}
use Rattle.hub_invariants.proofs.Sound.{or-true}
use Rattle.hub_shared.specs.Connections.{challenge_of}

-- the same caller and the same challenge
pub record Same (a b : ConnState) : Type 0 where
  pub owner : a.owner ≡ b.owner
  pub challenge : a.sender.challenge ≡ b.sender.challenge

same : (a : ConnState) → Same a a
same a = record { owner = refl; challenge = refl }

then : (a b c : ConnState) → Same a b → Same b c → Same a c
then a b c x y = record { owner = x.owner ∙ y.owner; challenge = x.challenge ∙ y.challenge }

-- ---- an effect

happens-same : (c : ℕ) (effect : Effect) (f : Facts) (d : ℕ) → Same ((happens c effect f).about d) (f.about d)
unfolding happens
happens-same c effect f d = subst (λ a. Same a (f.about d)) (sym (about-parts c effect f.about d)) (record { owner = refl; challenge = refl })

given-same : (count : ℕ) (a : ConnState) (is : Bool) → Same (cond is (with_lines_taken count a) a) a
given-same count a true = record { owner = refl; challenge = refl }
given-same count a false = record { owner = refl; challenge = refl }

-- ---- a call

newcomer-same : (f : Facts) (owner : ℕ) (peer challenge : List ℕ) (d : ℕ) (is : Bool) → (d == (f.joins + 1)) ≡ is → d ≤ f.joins
    → Same (cond is (newcomer owner (next_sid f) peer challenge) (f.about d)) (f.about d)
newcomer-same f owner peer challenge d true is below = let e : d ≡ f.joins + 1 = eqb-true d (f.joins + 1) is in absurd (omega (arith, e, below))
newcomer-same f owner peer challenge d false is below = same (f.about d)

join-same : (f : Facts) (owner : ℕ) (peer challenge : List ℕ) (d : ℕ) (accepted : Bool) → d ≤ f.joins → Same ((cond accepted (with_connection f owner peer challenge) f).about d) (f.about d)
unfolding with_connection
join-same f owner peer challenge d true below = newcomer-same f owner peer challenge d (d == (f.joins + 1)) refl below
join-same f owner peer challenge d false below = same (f.about d)

closed-same : (c : ℕ) (f : Facts) (d : ℕ) → Same ((without_connection c f).about d) (f.about d)
unfolding without_connection
closed-same c f d = same (f.about d)

pub after-same : (setup : Configured) (hash : List ℕ → List ℕ) (f : Facts) (caller : ℕ) (call : Call) (d : ℕ) → d ≤ f.joins → Same ((after setup hash f caller call).about d) (f.about d)
unfolding after
after-same setup hash f caller (Join peer challenge now) d below = join-same f caller peer challenge d (has_place setup f && has_joins f) below
after-same setup hash f caller (Line c bytes now) d below = happens-same c (effect_of_line setup hash f c bytes now) f d
after-same setup hash f caller (Quit c) d below =
    then _ _ _ (closed-same c (happens c (departure (f.about c).stage (f.about c).sender.sid) f) d) (happens-same c (departure (f.about c).stage (f.about c).sender.sid) f d)
after-same setup hash f caller (Take c count) d below = given-same count (f.about d) (d == c)

-- ---- a join that was accepted

-- the connection is the next one, open, the caller's, and has the challenge of the call
pub record IsNew (f g : Facts) (caller : ℕ) (call : Call) (c : ℕ) : Type 0 where
  pub next : c ≡ f.joins + 1
  pub counted : g.joins ≡ f.joins + 1
  pub there : has c g.opened ≡ true
  pub owner : (g.about c).owner ≡ caller
  pub challenge : (g.about c).sender.challenge ≡ challenge_of call
  pub no_quit : (d : ℕ) → quits d call ≡ false

new-there : (f : Facts) (c : ℕ) → ((f.joins + 1) == c) ≡ true → has c (f.opened ++ (f.joins + 1) ∷ []) ≡ true
new-there f c is = has-append c f.opened ((f.joins + 1) ∷ []) ∙ ap (λ b. has c f.opened || (b || false)) is ∙ or-true (has c f.opened)

other-way : (c d : ℕ) → (c == d) ≡ true → (d == c) ≡ true
other-way c d is = eq-eqb d c (sym (eqb-true c d is))

new-join : (f : Facts) (caller : ℕ) (peer challenge : List ℕ) (now c : ℕ) (place counted : Bool) → joins_as c (join_reply place counted f.joins) ≡ true
    → IsNew f (cond (place && counted) (with_connection f caller peer challenge) f) caller (Join peer challenge now) c
unfolding with_connection
new-join f caller peer challenge now c true true is = record {
  next = sym (eqb-true (f.joins + 1) c is);
  counted = refl;
  there = new-there f c is;
  owner = ap (λ b. (cond b (newcomer caller (next_sid f) peer challenge) (f.about c)).owner) (other-way (f.joins + 1) c is);
  challenge = ap (λ b. (cond b (newcomer caller (next_sid f) peer challenge) (f.about c)).sender.challenge) (other-way (f.joins + 1) c is);
  no_quit = λ d. refl;
}
new-join f caller peer challenge now c true false is = absurd (false≢true is)
new-join f caller peer challenge now c false counted is = absurd (false≢true is)

pub is-new : (setup : Configured) (hash : List ℕ → List ℕ) (f : Facts) (caller : ℕ) (call : Call) (c : ℕ) → joins_as c (reply setup hash f caller call) ≡ true
    → IsNew f (after setup hash f caller call) caller call c
unfolding after reply
is-new setup hash f caller (Join peer challenge now) c is = new-join f caller peer challenge now c (has_place setup f) (has_joins f) is
is-new setup hash f caller (Line d bytes now) c is = absurd (false≢true is)
is-new setup hash f caller (Quit d) c is = absurd (false≢true is)
is-new setup hash f caller (Take d count) c is = absurd (false≢true is)
