-- Facts that hold after every history, legal or not.
use Rattle.std.proofs.Common.{◌≡◌, ◌∙◌, ap, ℕ, ◌≤◌, Bool, true, false, ◌&&◌, ◌||◌, ◌==◌, eqb, List, ◌++◌, length, append-nil, arith, length-append, cond, ◌∷◌, []}
use Rattle.login_state.specs.declared.stage.Stage.{Stage}
use Rattle.login_state.specs.declared.stage.Stage.TheVariants as stages
use Rattle.hub_rules.specs.declared.effect.Change.{Change}
use Rattle.hub_rules.specs.declared.effect.Effect.{Effect}
use Rattle.hub_rules.specs.Effects.{departure, is_over, is_present}
use Rattle.hub_rules.specs.Facts.{Facts, enters, about_after, present_after, happens}
use Rattle.hub_rules.specs.Shares.{ConnState, has_room, owed_with}
use Rattle.hub_invariants.specs.Afterwards.{removed_by, stage_after}
use Rattle.hub_invariants.proofs.CallCases.{about-parts, about_parts}
use Rattle.hub_invariants.proofs.Fits.{Fits}
use Rattle.hub_invariants.proofs.Members.{apart, apart-filter, apart-push, has, has-append, has-filter}

pub record Sound (f : Facts) : Type 0 where
  -- each connection is open once, and none above the last join
  pub open_once : apart f.opened ≡ true
  pub counted : (d : ℕ) → has d f.opened ≡ true → d ≤ f.joins
  -- a connection that is not shut out is open
  pub are_open : (d : ℕ) → is_over (f.about d).stage ≡ false → has d f.opened ≡ true
  -- the present are those at the stage of users, each once
  pub entered : (d : ℕ) → has d f.present ≡ is_present (f.about d).stage
  pub present_once : apart f.present ≡ true
  -- nobody took more than it was owed
  pub taken : (d : ℕ) → (f.about d).taken ≤ length (f.about d).owed

-- ---- what an effect does to the stage of one connection

-- the stage that a connection has after an effect
abbrev pub stage_next : Bool → Bool → Change → Stage → Stage
stage_next removed is_caller change stage = cond removed stages.Gone (cond is_caller (stage_after change stage) stage)

owed-more : (room : Bool) (owed share : List (List ℕ)) → length owed ≤ length (cond room (owed ++ share) owed)
owed-more room owed share = grind (arith, length-append)

-- what a connection was owed it is owed still
owed-before : (a : ConnState) (share : List (List ℕ)) → length a.owed ≤ length (owed_with a share)
unfolding owed_with
owed-before a share = owed-more (has_room a share) a.owed share

-- ---- a connection that is not shut out was not before

pub not-over : (s : Stage) → is_present s ≡ true → is_over s ≡ false
not-over s here = grind arith

-- ---- a user who is present was present before, or enters

pub or-false : (b : Bool) → (b || false) ≡ b
or-false b = grind arith

pub or-true : (b : Bool) → (b || true) ≡ true
or-true b = grind arith

pub newcomer-has : (enter : Bool) (c d : ℕ) → has d (cond enter (c ∷ []) []) ≡ (enter && eqb c d)
newcomer-has enter c d = grind arith

pub eqb-sym : (a b : ℕ) (r s : Bool) → eqb a b ≡ r → eqb b a ≡ s → r ≡ s
eqb-sym a b r s is back = grind arith

-- the present after an effect are those at the stage of users
entered-by : (enter is_caller removed : Bool) (change : Change) (stage : Stage) → enters change ≡ enter → ((is_caller && enter) ≡ true → removed ≡ false)
    → ((is_present stage && is_present (stage_next removed is_caller change stage)) || (is_caller && enter)) ≡ is_present (stage_next removed is_caller change stage)
entered-by enter is_caller removed change stage is alone = grind arith

-- ---- an effect keeps the facts sound

pub happens-open : (c : ℕ) (effect : Effect) (f : Facts) → Sound f → Fits (f.about c).stage effect → (d : ℕ)
    → is_over (about_after c effect f.about d).stage ≡ false → has d f.opened ≡ true
happens-open c effect f sound suits d open_after = grind arith

pub parts-open : (c : ℕ) (effect : Effect) (f : Facts) → Sound f → Fits (f.about c).stage effect → (d : ℕ)
    → is_over (about_parts c effect f.about d).stage ≡ false → has d f.opened ≡ true
parts-open c effect f sound suits d open_after =
    happens-open c effect f sound suits d (ap (λ (a : ConnState). is_over a.stage) (about-parts c effect f.about d) ∙ open_after)

pub alone-at : (c : ℕ) (effect : Effect) (f : Facts) → Fits (f.about c).stage effect → (d : ℕ) → ((d == c) && enters effect.change) ≡ true
    → removed_by effect (f.about d) ≡ false
alone-at c effect f suits d here = grind arith

happens-entered : (c : ℕ) (effect : Effect) (f : Facts) → Sound f → Fits (f.about c).stage effect → (d : ℕ)
    → has d (present_after c effect f.about f.present) ≡ is_present (about_after c effect f.about d).stage
happens-entered c effect f sound suits d = grind (arith, has-append, has-filter, newcomer-has, eqb-sym, entered-by, alone-at)

newcomer-apart : (enter : Bool) (c : ℕ) (xs : List ℕ) → (enter ≡ true → has c xs ≡ false) → apart xs ≡ true → apart (xs ++ cond enter (c ∷ []) []) ≡ true
newcomer-apart enter c xs fresh once = grind (arith, apart-push, append-nil)

pub happens-sound : (c : ℕ) (effect : Effect) (f : Facts) → Sound f → Fits (f.about c).stage effect → Sound (happens c effect f)
unfolding happens
happens-sound c effect f sound suits = grind (arith, happens-open, happens-entered, newcomer-apart, has-filter, apart-filter, owed-before)

-- a connection that leaves is shut out
pub departed-over : (c : ℕ) (f : Facts) → is_over ((happens c (departure (f.about c).stage (f.about c).sender.sid) f).about c).stage ≡ true
unfolding happens
departed-over c f = grind arith
