-- After every history, open connections have different session identifiers, and none has the first, which is the hub's.
use Rattle.std.proofs.Common.{◌≡◌, ◌∙◌, sym, ap, ap₂, refl, subst, ℕ, suc, ◌+◌, ◌<◌, ◌≤◌, Bool, true, false, not, ◌&&◌, ◌||◌, ◌==◌, eqb, nat_le, cond, List, [], ◌∷◌, ◌++◌, length, map, filter, arith, length-append}
use Rattle.std.proofs.lemmas.Bool.{false≢true, eqb-true, eq-eqb, and_parts}
use Rattle.adc_base32.specs.Turns.{is_taken}
use Rattle.adc_base32.proofs.Turns.{next_free-free, next_free-range}
use Rattle.hub_rules.specs.declared.effect.Effect.{Effect}
use Rattle.hub_rules.specs.declared.history.Call.{Call}
use Rattle.hub_rules.specs.declared.history.Call.TheVariants.{Join, Line, Quit, Take}
use Rattle.hub_rules.specs.declared.history.Entry.{Entry}
use Rattle.hub_rules.specs.Configured.{most_users, Configured}
use Rattle.hub_rules.specs.Effects.{departure}
use Rattle.hub_rules.specs.Facts.{Facts, facts, after, with_connection, without_connection, happens, with_lines_taken, has_place, has_joins, newcomer, next_sid, with_one, effect_of_line}
use Rattle.hub_invariants.proofs.CallCases.{happens-parts, take-facts}
use Rattle.hub_invariants.proofs.Calls.{sound_of}
use Rattle.hub_invariants.proofs.Members.{apart, apart-push, both, has, has-append, has-filter}
use Rattle.hub_invariants.proofs.Sound.{Sound, eqb-sym, or-false, or-true}

abbrev pub sids : Facts → List ℕ
sids f = map (λ d. (f.about d).sender.sid) f.opened

pub record Numbered (setup : Configured) (f : Facts) : Type 0 where
  pub apart_sids : apart (sids f) ≡ true
  pub given_sids : (d : ℕ) → has d f.opened ≡ true → (0 < (f.about d).sender.sid) × ((f.about d).sender.sid < 1_048_576)
  pub last_in : f.last < 1_048_576
  pub few : length f.opened ≤ setup.plain.max_users

-- ---- lists

has-is_taken : (n : ℕ) (xs : List ℕ) → has n xs ≡ is_taken n xs
has-is_taken n [] = refl
has-is_taken n (x ∷ xs) = ap₂ ◌||◌ (eqb-sym x n (eqb x n) (eqb n x) refl refl) (has-is_taken n xs)

map-same_on : (g h : ℕ → ℕ) (xs : List ℕ) → ((d : ℕ) → has d xs ≡ true → g d ≡ h d) → map g xs ≡ map h xs
map-same_on g h [] same = refl
map-same_on g h (x ∷ xs) same =
    ap₂ (λ (y : ℕ) (ys : List ℕ). y ∷ ys) (same x (ap (λ b. b || has x xs) (eq-eqb x x refl)))
    (map-same_on g h xs (λ d there. same d (ap (λ b. eqb x d || b) there ∙ or-true (eqb x d))))

map-end : (g : ℕ → ℕ) (xs : List ℕ) (d : ℕ) → map g (xs ++ d ∷ []) ≡ map g xs ++ g d ∷ []
map-end g [] d = refl
map-end g (x ∷ xs) d = ap (λ (ys : List ℕ). g x ∷ ys) (map-end g xs d)

length-map : (g : ℕ → ℕ) (xs : List ℕ) → length (map g xs) ≡ length xs
length-map g [] = refl
length-map g (x ∷ xs) = ap suc (length-map g xs)

-- what a part has, the whole has
none-kept : (g : ℕ → ℕ) (p : ℕ → Bool) (y x : ℕ) (xs : List ℕ) (keep : Bool) → (has y (map g xs) ≡ false → has y (map g (filter p xs)) ≡ false)
    → (eqb (g x) y || has y (map g xs)) ≡ false → has y (map g (cond keep (x ∷ filter p xs) (filter p xs))) ≡ false
none-kept g p y x xs keep rest none = grind arith

none-filtered : (g : ℕ → ℕ) (p : ℕ → Bool) (y : ℕ) (xs : List ℕ) → has y (map g xs) ≡ false → has y (map g (filter p xs)) ≡ false
none-filtered g p y [] none = refl
none-filtered g p y (x ∷ xs) none = none-kept g p y x xs (p x) (none-filtered g p y xs) none

pub not-true : (b : Bool) → not b ≡ true → b ≡ false
not-true b e = grind arith

apart-map-kept : (g : ℕ → ℕ) (p : ℕ → Bool) (x : ℕ) (xs : List ℕ) (keep : Bool) → has (g x) (map g xs) ≡ false → apart (map g (filter p xs)) ≡ true
    → apart (map g (cond keep (x ∷ filter p xs) (filter p xs))) ≡ true
apart-map-kept g p x xs keep none rest = grind (arith, none-filtered)

apart-map-filter : (g : ℕ → ℕ) (p : ℕ → Bool) (xs : List ℕ) → apart (map g xs) ≡ true → apart (map g (filter p xs)) ≡ true
apart-map-filter g p [] e = refl
apart-map-filter g p (x ∷ xs) e =
    let tests = both (not (has (g x) (map g xs))) (apart (map g xs)) e in
    apart-map-kept g p x xs (p x) (not-true (has (g x) (map g xs)) tests.0) (apart-map-filter g p xs tests.1)

fewer-kept : (p : ℕ → Bool) (x : ℕ) (xs : List ℕ) (keep : Bool) → length (filter p xs) ≤ length xs → length (cond keep (x ∷ filter p xs) (filter p xs)) ≤ suc (length xs)
fewer-kept p x xs keep few = grind arith

fewer : (p : ℕ → Bool) (xs : List ℕ) → length (filter p xs) ≤ length xs
fewer p [] = omega arith
fewer p (x ∷ xs) = fewer-kept p x xs (p x) (fewer p xs)

-- ---- an effect changes no identifier

happens-numbered : (setup : Configured) (c : ℕ) (effect : Effect) (f : Facts) → Numbered setup f → Numbered setup (happens c effect f)
happens-numbered setup c effect f n =
    subst (Numbered setup) (sym (happens-parts c effect f)) (record { apart_sids = n.apart_sids; given_sids = n.given_sids; last_in = n.last_in; few = n.few })

closed-numbered : (setup : Configured) (c : ℕ) (f : Facts) → Numbered setup f → Numbered setup (without_connection c f)
unfolding without_connection
closed-numbered setup c f n = record {
  apart_sids = apart-map-filter (λ d. (f.about d).sender.sid) (λ x. not (x == c)) f.opened n.apart_sids;
  given_sids = λ d there. n.given_sids d ((and_parts (has d f.opened) (not (d == c)) (sym (has-filter (λ x. not (x == c)) d f.opened) ∙ there)).0);
  last_in = n.last_in;
  few = omega (arith, n.few, fewer (λ x. not (x == c)) f.opened);
}

taken-numbered : (setup : Configured) (c count : ℕ) (f : Facts) → Numbered setup f → Numbered setup (record f { about = with_one c (with_lines_taken count) f.about })
taken-numbered setup c count f n =
    subst (Numbered setup) (take-facts c count f) (record { apart_sids = n.apart_sids; given_sids = n.given_sids; last_in = n.last_in; few = n.few })

-- ---- a join

differs : (f : Facts) → Sound f → (d : ℕ) (same : Bool) → (d == (f.joins + 1)) ≡ same → has d f.opened ≡ true → same ≡ false
differs f sound d same is there = grind arith

room-by : (most count : ℕ) → not (nat_le most count) ≡ true → count < most
room-by most count has_room = grind arith

joined-sid : (f : Facts) (owner : ℕ) (peer challenge : List ℕ) → Sound f → (d : ℕ) → has d f.opened ≡ true
    → (with_one (f.joins + 1) (λ a. newcomer owner (next_sid f) peer challenge) f.about d).sender.sid ≡ (f.about d).sender.sid
joined-sid f owner peer challenge sound d there = grind arith

new-sid : (f : Facts) (owner : ℕ) (peer challenge : List ℕ)
    → (with_one (f.joins + 1) (λ a. newcomer owner (next_sid f) peer challenge) f.about (f.joins + 1)).sender.sid ≡ next_sid f
new-sid f owner peer challenge = ap (λ b. (cond b (newcomer owner (next_sid f) peer challenge) (f.about (f.joins + 1))).sender.sid) (eq-eqb (f.joins + 1) (f.joins + 1) refl)

fresh-sid : (setup : Configured) (f : Facts) → setup.plain.max_users ≤ most_users → Numbered setup f → has_place setup f ≡ true → has (next_sid f) (sids f) ≡ false
fresh-sid setup f few n place = grind (arith, room-by, has-is_taken, next_free-free, length-map)

joined-given : (f : Facts) (owner : ℕ) (peer challenge : List ℕ) → Sound f → (setup : Configured) → Numbered setup f → (d : ℕ) (before : Bool)
    → has d f.opened ≡ before → (before || (eqb (f.joins + 1) d || false)) ≡ true
    → (0 < (with_one (f.joins + 1) (λ a. newcomer owner (next_sid f) peer challenge) f.about d).sender.sid)
    × ((with_one (f.joins + 1) (λ a. newcomer owner (next_sid f) peer challenge) f.about d).sender.sid < 1_048_576)
joined-given f owner peer challenge sound setup n d before is there = grind (arith, joined-sid, eqb-true, or-false, new-sid, next_free-range)

joined-numbered : (setup : Configured) (f : Facts) (owner : ℕ) (peer challenge : List ℕ) → setup.plain.max_users ≤ most_users → has_place setup f ≡ true → Sound f
    → Numbered setup f → Numbered setup (with_connection f owner peer challenge)
unfolding with_connection
joined-numbered setup f owner peer challenge small place sound n = grind (arith, map-end, map-same_on, joined-sid, new-sid, apart-push, fresh-sid, joined-given, has-append, next_free-range, room-by, length-append)

-- ---- every call

join-numbered : (setup : Configured) (f : Facts) (owner : ℕ) (peer challenge : List ℕ) (place counted : Bool) → has_place setup f ≡ place → setup.plain.max_users ≤ most_users
    → Sound f → Numbered setup f → Numbered setup (cond (place && counted) (with_connection f owner peer challenge) f)
join-numbered setup f owner peer challenge true true is small sound n = joined-numbered setup f owner peer challenge small is sound n
join-numbered setup f owner peer challenge true false is small sound n = n
join-numbered setup f owner peer challenge false counted is small sound n = n

after-numbered : (setup : Configured) (hash : List ℕ → List ℕ) (f : Facts) (caller : ℕ) (call : Call) → setup.plain.max_users ≤ most_users → Sound f
    → Numbered setup f → Numbered setup (after setup hash f caller call)
unfolding after
after-numbered setup hash f caller (Join peer challenge now) small sound n =
    join-numbered setup f caller peer challenge (has_place setup f) (has_joins f) refl small sound n
after-numbered setup hash f caller (Line c bytes now) small sound n = happens-numbered setup c (effect_of_line setup hash f c bytes now) f n
after-numbered setup hash f caller (Quit c) small sound n =
    closed-numbered setup c _ (happens-numbered setup c (departure (f.about c).stage (f.about c).sender.sid) f n)
after-numbered setup hash f caller (Take c count) small sound n = taken-numbered setup c count f n

pub numbered_of : (setup : Configured) (hash : List ℕ → List ℕ) (h : List Entry) → setup.plain.max_users ≤ most_users → Numbered setup (facts setup hash h)
unfolding facts
numbered_of setup hash [] small = record {
  apart_sids = refl;
  given_sids = λ d there. absurd (false≢true there);
  last_in = omega arith;
  few = omega arith;
}
numbered_of setup hash (e ∷ h) small =
    after-numbered setup hash (facts setup hash h) e.caller e.call small (sound_of setup hash h) (numbered_of setup hash h small)
