-- A connection by its stage, and the limits of what waits for it, after every history.
use Rattle.std.proofs.Common.{◌≡◌, ◌∙◌, sym, ap, refl, subst, ℕ, ◌+◌, ◌≤◌, Bool, true, false, ◌==◌, List, [], ◌∷◌, ◌++◌, length, take, drop, arith, length-append, length-take, length-drop, cond}
use Rattle.std.proofs.lemmas.Bool.{eqb-true, leb-true, and_parts}
use Rattle.std.proofs.lemmas.List.{drop-append-le, drop-drop, drop_min}
use Rattle.std.proofs.lemmas.List.Sums.{sum_by-append, sum_by-take-drop}
use Rattle.login_state.specs.declared.stage.Stage.{Stage}
use Rattle.login_state.specs.declared.stage.Stage.TheVariants as stages
use Rattle.outboxes.specs.Backlogs.{size_of}
use Rattle.hub_rules.specs.declared.effect.Change.{Change}
use Rattle.hub_rules.specs.declared.effect.Effect.{Effect}
use Rattle.hub_rules.specs.declared.history.Call.{Call}
use Rattle.hub_rules.specs.declared.history.Entry.{Entry}
use Rattle.hub_rules.specs.Configured.{Configured}
use Rattle.hub_rules.specs.Effects.{departure}
use Rattle.hub_rules.specs.Facts.{Facts, facts, effect_of_line, with_lines_taken, newcomer, next_sid, nobody, own_of, sight_of}
use Rattle.hub_rules.specs.Prepared.{prepared_line}
use Rattle.hub_invariants.specs.Said.{infs}
use Rattle.hub_rules.specs.Shares.{ConnState, has_room_for, has_room, max_bytes, max_lines, owed_with, waiting}
use Rattle.hub_invariants.specs.Afterwards.{affected_parts, expected_after, fields_after}
use Rattle.hub_invariants.proofs.CallCases.{Becomes, becomes, taken_by}
use Rattle.hub_invariants.proofs.Calls.{sound_of}
use Rattle.hub_invariants.proofs.AcceptedLines.{told_of}
use Rattle.hub_invariants.proofs.Sound.{Sound, stage_next}
use Rattle.hub_invariants.proofs.Suits.{Suited, Suits, suits-line}

-- nothing is known of its user yet
abbrev pub is_unnamed : Stage → Bool
is_unnamed stages.Protocol = true
is_unnamed stages.Identify = true
is_unnamed stage = false

-- no password is waited for
abbrev pub is_unasked : Stage → Bool
is_unasked stages.Verify = false
is_unasked stages.Gone = false
is_unasked stage = true

pub record Tidy (a : ConnState) : Type 0 where
  pub unnamed : is_unnamed a.stage ≡ true → a.fields ≡ []
  pub unasked : is_unasked a.stage ≡ true → a.expected ≡ []
  -- what waits is within the limits
  pub lines : length (waiting a) ≤ max_lines
  pub bytes : size_of (waiting a) ≤ max_bytes

tidy-nobody : Tidy nobody
tidy-nobody = record { unnamed = λ is. refl; unasked = λ is. refl; lines = omega arith; bytes = omega arith }

tidy-newcomer : (owner sid : ℕ) (peer challenge : List ℕ) → Tidy (newcomer owner sid peer challenge)
tidy-newcomer owner sid peer challenge = record { unnamed = λ is. refl; unasked = λ is. refl; lines = omega arith; bytes = omega arith }

-- ---- shares

fits-lines : (before share : List (List ℕ)) → has_room_for before share ≡ true → length before + length share ≤ max_lines
fits-lines before share e = leb-true (length before + length share) max_lines ((and_parts _ _ e).0)

fits-bytes : (before share : List (List ℕ)) → has_room_for before share ≡ true → size_of before + size_of share ≤ max_bytes
fits-bytes before share e = leb-true (size_of before + size_of share) max_bytes ((and_parts _ _ e).1)

size-append : (xs ys : List (List ℕ)) → size_of (xs ++ ys) ≡ size_of xs + size_of ys
size-append xs ys = sum_by-append length xs ys

-- what is owed waits, behind what waits already
pub waiting-more : (a : ConnState) (share : List (List ℕ)) → a.taken ≤ length a.owed → drop a.taken (a.owed ++ share) ≡ waiting a ++ share
waiting-more a share few = drop-append-le a.taken a.owed share few

lines-with : (room : Bool) (a : ConnState) (share : List (List ℕ)) → has_room a share ≡ room → a.taken ≤ length a.owed → Tidy a
    → length (drop a.taken (cond room (a.owed ++ share) a.owed)) ≤ max_lines
lines-with room a share is few tidy = grind (arith, waiting-more, length-append, fits-lines)

bytes-with : (room : Bool) (a : ConnState) (share : List (List ℕ)) → has_room a share ≡ room → a.taken ≤ length a.owed → Tidy a
    → size_of (drop a.taken (cond room (a.owed ++ share) a.owed)) ≤ max_bytes
bytes-with room a share is few tidy = grind (arith, waiting-more, size-append, fits-bytes)

-- ---- what becomes of a connection

next-unnamed : (removed is_caller : Bool) (change : Change) (a : ConnState) → (is_caller ≡ true → Suited (own_of a) change) → Tidy a
    → is_unnamed (stage_next removed is_caller change a.stage) ≡ true → cond is_caller (fields_after change a.fields) a.fields ≡ []
next-unnamed removed is_caller change a suits tidy is = grind arith

next-unasked : (removed is_caller : Bool) (change : Change) (a : ConnState) → (is_caller ≡ true → Suited (own_of a) change) → Tidy a
    → is_unasked (stage_next removed is_caller change a.stage) ≡ true → cond is_caller (expected_after change a.expected) a.expected ≡ []
next-unasked removed is_caller change a suits tidy is = grind arith

pub tidy-affected : (is_caller : Bool) (effect : Effect) (a : ConnState) → a.taken ≤ length a.owed → (is_caller ≡ true → Suited (own_of a) effect.change) → Tidy a
    → Tidy (affected_parts is_caller effect a)
unfolding owed_with
tidy-affected is_caller effect a few suits tidy = grind (arith, next-unnamed, next-unasked, lines-with, bytes-with)

-- ---- every call

-- what is left after a take
pub waiting-given : (count : ℕ) (a : ConnState) → waiting (with_lines_taken count a) ≡ drop count (waiting a)
waiting-given count a =
    sym (sym (drop_min count (waiting a))
    ∙ ap (λ n. drop n (waiting a)) (sym (length-take count (waiting a)))
    ∙ drop-drop (length (take count (waiting a))) a.taken a.owed)

tidy-given : (count : ℕ) (a : ConnState) → Tidy a → Tidy (with_lines_taken count a)
tidy-given count a tidy = record {
  unnamed = tidy.unnamed;
  unasked = tidy.unasked;
  lines = omega (arith, ap length (waiting-given count a), length-drop count (waiting a), tidy.lines);
  bytes = omega (arith, ap size_of (waiting-given count a), sum_by-take-drop length (waiting a) count, tidy.bytes);
}

tidy-taken : (same : Bool) (count : ℕ) (a : ConnState) → Tidy a → Tidy (taken_by same count a)
tidy-taken true count a tidy = tidy-given count a tidy
tidy-taken false count a tidy = tidy

module _ {setup : Configured} {hash : List ℕ → List ℕ} {f : Facts} {caller d : ℕ} where
  tidy-after : {call : Call} {a : ConnState} → Becomes setup hash f caller d call a → Sound f
      → ((c : ℕ) (bytes : List ℕ) (now : ℕ) → Suits (own_of (f.about c)) (effect_of_line setup hash f c bytes now)) → Tidy (f.about d) → Tidy a
  tidy-after (Becomes.joins peer challenge now place is) sound suits tidy = tidy-newcomer caller (next_sid f) peer challenge
  tidy-after (Becomes.misses peer challenge now place) sound suits tidy = tidy
  tidy-after (Becomes.says c bytes now) sound suits tidy =
      let effect : Effect = effect_of_line setup hash f c bytes now in
      tidy-affected (d == c) effect (f.about d) (sound.taken d)
      (λ is. subst (λ x. Suited (own_of (f.about x)) effect.change) (sym (eqb-true d c is)) (suits c bytes now).change) tidy
  tidy-after (Becomes.quits c) sound suits tidy = tidy-affected (d == c) (departure (f.about c).stage (f.about c).sender.sid) (f.about d) (sound.taken d) (λ is. tt) tidy
  tidy-after (Becomes.takes c count) sound suits tidy = tidy-taken (d == c) count (f.about d) tidy

pub suits_of : (setup : Configured) (hash : List ℕ → List ℕ) (h : List Entry) (c : ℕ) (bytes : List ℕ) (now : ℕ)
    → Suits (own_of ((facts setup hash h).about c)) (effect_of_line setup hash (facts setup hash h) c bytes now)
suits_of setup hash h c bytes now =
    suits-line (sight_of setup (facts setup hash h)) (own_of ((facts setup hash h).about c)) (prepared_line setup hash ((facts setup hash h).about c).sender.challenge bytes) now
    (infs setup hash h c) (told_of setup hash h c).tells

pub tidy_of : (setup : Configured) (hash : List ℕ → List ℕ) (h : List Entry) (c : ℕ) → Tidy ((facts setup hash h).about c)
unfolding facts
tidy_of setup hash [] c = tidy-nobody
tidy_of setup hash (e ∷ h) c = tidy-after (becomes setup hash (facts setup hash h) e.caller c e.call) (sound_of setup hash h) (suits_of setup hash h) (tidy_of setup hash h c)
