-- After every history, legal or not, the facts are sound.
use Rattle.std.proofs.Common.{◌≡◌, sym, refl, ℕ, ◌+◌, ◌<◌, ◌≤◌, Bool, true, false, not, ◌&&◌, ◌||◌, ◌==◌, eqb, List, [], ◌∷◌, ◌++◌, length, filter, arith, length-take, length-drop, subst, cond}
use Rattle.std.proofs.lemmas.Bool.{false≢true, eqb-true, eq-eqb}
use Rattle.login_state.specs.declared.stage.Stage.{Stage}
use Rattle.hub_rules.specs.declared.history.Call.{Call}
use Rattle.hub_rules.specs.declared.history.Call.TheVariants.{Join, Line, Quit, Take}
use Rattle.hub_rules.specs.declared.history.Entry.{Entry}
use Rattle.hub_rules.specs.Configured.{Configured}
use Rattle.hub_rules.specs.Effects.{is_over, is_present, departure}
use Rattle.hub_rules.specs.Facts.{Facts, facts, after, with_connection, without_connection, happens, with_lines_taken, has_place, has_joins, newcomer, next_sid, with_one, effect_of_line}
use Rattle.hub_rules.specs.Shares.{ConnState}
use Rattle.hub_invariants.proofs.CallCases.{take-facts, taken_by}
use Rattle.hub_invariants.proofs.Fits.{fits-departure}
use Rattle.hub_invariants.proofs.Lines.{fits-line}
use Rattle.hub_invariants.proofs.Members.{apart-filter, apart-push, has, has-append, has-filter}
use Rattle.hub_invariants.proofs.Sound.{Sound, departed-over, happens-sound, or-true}

-- ---- a join

pub above : (f : Facts) → Sound f → (n : ℕ) → f.joins < n → (b : Bool) → has n f.opened ≡ b → b ≡ false
above f sound n more b is = grind arith

pub not-open : (f : Facts) → Sound f → has (f.joins + 1) f.opened ≡ false
not-open f sound = above f sound (f.joins + 1) (omega arith) (has (f.joins + 1) f.opened) refl

pub over-unless : (f : Facts) → Sound f → (d : ℕ) → has d f.opened ≡ false → (b : Bool) → is_over (f.about d).stage ≡ b → b ≡ true
over-unless f sound d none b is = grind arith

pub present-over : (stage : Stage) → is_over stage ≡ true → is_present stage ≡ false
present-over stage over = grind arith

pub absent-newcomer : (f : Facts) → Sound f → is_present (f.about (f.joins + 1)).stage ≡ false
absent-newcomer f sound = grind arith

join-open : (f : Facts) (owner : ℕ) (peer challenge : List ℕ) → Sound f → (d : ℕ) (same : Bool) → (d == (f.joins + 1)) ≡ same
    → is_over (cond same (newcomer owner (next_sid f) peer challenge) (f.about d)).stage ≡ false → has d (f.opened ++ (f.joins + 1) ∷ []) ≡ true
join-open f owner peer challenge sound d same is open_after = grind (arith, has-append, eq-eqb, eqb-true, or-true)

join-counted : (f : Facts) → Sound f → (d : ℕ) (before : Bool) → has d f.opened ≡ before → (before || (eqb (f.joins + 1) d || false)) ≡ true → d ≤ f.joins + 1
join-counted f sound d before is there = grind arith

join-entered : (f : Facts) (owner : ℕ) (peer challenge : List ℕ) → Sound f → (d : ℕ) (same : Bool) → (d == (f.joins + 1)) ≡ same
    → has d f.present ≡ is_present (cond same (newcomer owner (next_sid f) peer challenge) (f.about d)).stage
join-entered f owner peer challenge sound d same is = grind arith

join-taken : (f : Facts) (owner : ℕ) (peer challenge : List ℕ) → Sound f → (d : ℕ) (same : Bool)
    → (cond same (newcomer owner (next_sid f) peer challenge) (f.about d)).taken ≤ length (cond same (newcomer owner (next_sid f) peer challenge) (f.about d)).owed
join-taken f owner peer challenge sound d same = grind arith

joined-sound : (f : Facts) (owner : ℕ) (peer challenge : List ℕ) → Sound f → Sound (with_connection f owner peer challenge)
unfolding with_connection
joined-sound f owner peer challenge sound = grind (arith, apart-push, not-open, join-counted, has-append, join-open, join-entered, join-taken)

-- ---- a quit

left-open : (c d : ℕ) (xs : List ℕ) (same : Bool) → (d == c) ≡ same → has d xs ≡ true → (same ≡ true → ⊥) → has d (filter (λ x. not (x == c)) xs) ≡ true
left-open c d xs same is there other = grind (arith, has-filter)

closed-sound : (c : ℕ) (f : Facts) → is_over (f.about c).stage ≡ true → Sound f → Sound (without_connection c f)
unfolding without_connection
closed-sound c f over sound = grind (arith, apart-filter, has-filter, left-open, eqb-true)

-- ---- a take

taken-few : (same : Bool) (count : ℕ) (a : ConnState) → a.taken ≤ length a.owed → (taken_by same count a).taken ≤ length a.owed
taken-few same count a few = grind (arith, length-take, length-drop)

taken-sound : (c count : ℕ) (f : Facts) → Sound f → Sound (record f { about = with_one c (with_lines_taken count) f.about })
taken-sound c count f sound = subst Sound (take-facts c count f) (record {
  open_once = sound.open_once;
  counted = sound.counted;
  are_open = sound.are_open;
  entered = sound.entered;
  present_once = sound.present_once;
  taken = λ d. taken-few (d == c) count (f.about d) (sound.taken d);
})

-- ---- every call

join-sound : (f : Facts) (owner : ℕ) (peer challenge : List ℕ) (accepted : Bool) → Sound f → Sound (cond accepted (with_connection f owner peer challenge) f)
join-sound f owner peer challenge true sound = joined-sound f owner peer challenge sound
join-sound f owner peer challenge false sound = sound

pub after-sound : (setup : Configured) (hash : List ℕ → List ℕ) (f : Facts) (caller : ℕ) (call : Call) → Sound f → Sound (after setup hash f caller call)
unfolding after
after-sound setup hash f caller (Join peer challenge now) sound = join-sound f caller peer challenge (has_place setup f && has_joins f) sound
after-sound setup hash f caller (Line c bytes now) sound = happens-sound c (effect_of_line setup hash f c bytes now) f sound (fits-line setup hash f c bytes now)
after-sound setup hash f caller (Quit c) sound =
    closed-sound c (happens c (departure (f.about c).stage (f.about c).sender.sid) f) (departed-over c f)
    (happens-sound c (departure (f.about c).stage (f.about c).sender.sid) f sound (fits-departure (f.about c).stage (f.about c).stage (f.about c).sender.sid))
after-sound setup hash f caller (Take c count) sound = taken-sound c count f sound

pub sound_of : (setup : Configured) (hash : List ℕ → List ℕ) (h : List Entry) → Sound (facts setup hash h)
unfolding facts
sound_of setup hash [] = record {
  open_once = refl;
  counted = λ d there. absurd (false≢true there);
  are_open = λ d open_after. absurd (false≢true (sym open_after));
  entered = λ d. refl;
  present_once = refl;
  taken = λ d. omega arith;
}
sound_of setup hash (e ∷ h) = after-sound setup hash (facts setup hash h) e.caller e.call (sound_of setup hash h)
