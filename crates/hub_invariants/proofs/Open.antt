-- Open are the connections that joined and did not quit.
use Rattle.std.proofs.Common.{◌≡◌, ◌∙◌, sym, ap, ap₂, refl, ℕ, ◌+◌, ◌<◌, Bool, true, false, not, ◌&&◌, ◌||◌, ◌==◌, eqb, List, [], ◌∷◌, arith, cond}
use Rattle.std.proofs.lemmas.Bool.{eqb-true}
use Rattle.hub_rules.specs.declared.effect.Effect.{Effect}
use Rattle.hub_rules.specs.declared.history.Call.{Call}
use Rattle.hub_rules.specs.declared.history.Entry.{Entry}
use Rattle.hub_rules.specs.Configured.{Configured}
use Rattle.hub_rules.specs.Facts.{Facts, facts, after, without_connection, happens, with_connection}
use Rattle.hub_rules.specs.Legal.{Legal, MayCall, join_reply, reply}
use Rattle.hub_invariants.specs.OpenConnections.{OpenAreThoseThatStayed, has_joined, has_quit, joins_as, quits}
use Rattle.hub_invariants.proofs.Calls.{sound_of}
use Rattle.hub_invariants.proofs.Kept.{joins-grow}
use Rattle.hub_invariants.proofs.Members.{has, has-append, has-filter}
use Rattle.hub_invariants.proofs.Sound.{Sound, eqb-sym, or-false}

-- ---- a connection that never joined never quit

same-number : (d c : ℕ) (same : Bool) → eqb d c ≡ same → d < c → same ≡ false
same-number d c same is below = grind arith

no-quit : (f : Facts) → Sound f → (caller : ℕ) (call : Call) (c : ℕ) → MayCall f caller call → f.joins < c → quits c call ≡ false
no-quit f sound caller call c may beyond = grind arith

never-quit : (setup : Configured) (hash : List ℕ → List ℕ) (h : List Entry) → Legal setup hash h → (c : ℕ) → (facts setup hash h).joins < c → has_quit c h ≡ false
unfolding facts Legal
never-quit setup hash [] legal c beyond = refl
never-quit setup hash (e ∷ h) legal c beyond =
    let below : (facts setup hash h).joins < c = omega (arith, beyond, joins-grow setup hash (facts setup hash h) e.caller e.call) in
    ap₂ ◌||◌ (no-quit (facts setup hash h) (sound_of setup hash h) e.caller e.call c legal.1 below) (never-quit setup hash h legal.0 c below)

-- ---- one call

joined-opened : (f : Facts) (owner : ℕ) (peer challenge : List ℕ) (c : ℕ) → has c (with_connection f owner peer challenge).opened ≡ (has c f.opened || eqb (f.joins + 1) c)
unfolding with_connection
joined-opened f owner peer challenge c = has-append c f.opened ((f.joins + 1) ∷ []) ∙ ap (λ b. has c f.opened || b) (or-false (eqb (f.joins + 1) c))

-- a join: the one that it makes has not quit
join-stays : (new before with_connection quit : Bool) → (new ≡ true → quit ≡ false) → before ≡ (with_connection && not quit) → (before || new) ≡ ((new || with_connection) && not quit)
join-stays new before with_connection quit fresh is = grind arith

quit-stays : (leaves before with_connection quit : Bool) → before ≡ (with_connection && not quit) → (before && not leaves) ≡ ((false || with_connection) && not (leaves || quit))
quit-stays leaves before with_connection quit is = grind arith

join-accepted : (f : Facts) (owner : ℕ) (peer challenge : List ℕ) (c : ℕ) (place counted before quit : Bool) → (f.joins < c → quit ≡ false) → has c f.opened ≡ (before && not quit)
    → has c (cond (place && counted) (with_connection f owner peer challenge) f).opened ≡ ((joins_as c (join_reply place counted f.joins) || before) && not (false || quit))
join-accepted f owner peer challenge c place counted before quit fresh is = grind (arith, joined-opened, join-stays, eqb-true)

happens-opened : (c : ℕ) (effect : Effect) (f : Facts) → (happens c effect f).opened ≡ f.opened
unfolding happens
happens-opened c effect f = refl

closed-opened : (d : ℕ) (f : Facts) (c : ℕ) → has c (without_connection d f).opened ≡ (has c f.opened && not (c == d))
unfolding without_connection
closed-opened d f c = has-filter (λ x. not (x == d)) c f.opened

open-after : (setup : Configured) (hash : List ℕ → List ℕ) (f : Facts) (caller : ℕ) (call : Call) (c : ℕ) (before quit : Bool) → (f.joins < c → quit ≡ false)
    → has c f.opened ≡ (before && not quit)
    → has c (after setup hash f caller call).opened ≡ ((joins_as c (reply setup hash f caller call) || before) && not (quits c call || quit))
unfolding after reply
open-after setup hash f caller call c before quit fresh is = grind (arith, join-accepted, happens-opened, closed-opened, eqb-sym, quit-stays)

-- ---- every history

pub open_are_those_that_stayed : OpenAreThoseThatStayed
unfolding facts Legal
open_are_those_that_stayed setup hash [] legal c = refl
open_are_those_that_stayed setup hash (e ∷ h) legal c =
    open-after setup hash (facts setup hash h) e.caller e.call c (has_joined c h) (has_quit c h) (never-quit setup hash h legal.0 c) (open_are_those_that_stayed setup hash h legal.0 c)
    ∙ ap (λ r. (joins_as c r || has_joined c h) && not (quits c e.call || has_quit c h)) (sym legal.2)
