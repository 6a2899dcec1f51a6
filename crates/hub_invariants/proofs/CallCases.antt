-- One view of what a call makes of a connection. Each law that every call keeps is a walk over these cases.
use Rattle.std.proofs.Common.{◌≡◌, ap, ap₂, refl, subst, sym, ℕ, ◌+◌, Bool, true, false, ◌&&◌, ◌==◌, List, [], ◌∷◌, ◌++◌, filter, if◌then◌else◌, length, take, cond, arith}
use Rattle.std.proofs.lemmas.Bool.{eqb-true}
use Rattle.hub_rules.specs.declared.history.Call.{Call}
use Rattle.hub_rules.specs.declared.history.Call.TheVariants.{Join, Line, Quit, Take}
use Rattle.hub_rules.specs.Configured.{Configured}
use Rattle.hub_rules.specs.Effects.{departure, is_present}
use Rattle.hub_rules.specs.Facts.{Facts, about_after, after, bans_after, enters, topic_after, without_connection, effect_of_line, with_lines_taken, happens, has_joins, has_place, with_connection, newcomer, next_sid, with_one}
use Rattle.hub_rules.specs.Shares.{ConnState, affected_connection, waiting}
use Rattle.hub_rules.specs.declared.effect.Effect.{Effect}
use Rattle.hub_invariants.specs.Afterwards.{affected_parts}

-- a connection of which so many lines are taken, where they are its own
abbrev pub taken_by : Bool → ℕ → ConnState → ConnState
taken_by same count a = record a { taken = cond same (a.taken + length (take count (waiting a))) a.taken }

pub data Becomes (setup : Configured) (hash : List ℕ → List ℕ) (f : Facts) (caller d : ℕ) : Call → ConnState → Type 0 where
  -- it is the one that joins, or another is, or none
  joins : (peer challenge : List ℕ) (now : ℕ) → (has_place setup f && has_joins f && (d == (f.joins + 1))) ≡ true → d ≡ f.joins + 1
      → Becomes setup hash f caller d (Join peer challenge now) (newcomer caller (next_sid f) peer challenge)
  misses : (peer challenge : List ℕ) (now : ℕ) → (has_place setup f && has_joins f && (d == (f.joins + 1))) ≡ false → Becomes setup hash f caller d (Join peer challenge now) (f.about d)
  says : (c : ℕ) (bytes : List ℕ) (now : ℕ) → Becomes setup hash f caller d (Line c bytes now) (affected_parts (d == c) (effect_of_line setup hash f c bytes now) (f.about d))
  quits : (c : ℕ) → Becomes setup hash f caller d (Quit c) (affected_parts (d == c) (departure (f.about c).stage (f.about c).sender.sid) (f.about d))
  takes : (c count : ℕ) → Becomes setup hash f caller d (Take c count) (taken_by (d == c) count (f.about d))

take-one : (count : ℕ) (a : ConnState) (same : Bool) → taken_by same count a ≡ cond same (with_lines_taken count a) a
take-one count a same = grind arith

pub take-facts : (c count : ℕ) (f : Facts) → record f { about = λ d. taken_by (d == c) count (f.about d) } ≡ record f { about = with_one c (with_lines_taken count) f.about }
take-facts c count f = λ i. record f { about = λ d. take-one count (f.about d) (d == c) i }

-- the rules say the same, whatever the change
pub parts : (is_sender : Bool) (effect : Effect) (a : ConnState) → affected_connection is_sender effect a ≡ affected_parts is_sender effect a
parts is_sender effect a = grind arith

-- connections after an effect of connection c, those whose users are present, and the hub: part by part
abbrev pub about_parts : ℕ → Effect → (ℕ → ConnState) → ℕ → ConnState
about_parts c effect about d = affected_parts (d == c) effect (about d)

abbrev pub present_parts : ℕ → Effect → (ℕ → ConnState) → List ℕ → List ℕ
present_parts c effect about present =
    filter (λ d. is_present (about_parts c effect about d).stage) present ++ (if enters effect.change then c ∷ [] else [])

abbrev pub happens_parts : ℕ → Effect → Facts → Facts
happens_parts c effect f = record f {
  present = present_parts c effect f.about f.present;
  bans = bans_after effect.change f.bans;
  topic = topic_after effect.change f.topic;
  about = about_parts c effect f.about;
}

pub about-parts : (c : ℕ) (effect : Effect) (about : ℕ → ConnState) (d : ℕ) → about_after c effect about d ≡ about_parts c effect about d
about-parts c effect about d = parts (d == c) effect (about d)

pub happens-parts : (c : ℕ) (effect : Effect) (f : Facts) → happens c effect f ≡ happens_parts c effect f
unfolding happens
happens-parts c effect f = λ i. record f {
  present = filter (λ d. is_present (about-parts c effect f.about d i).stage) f.present ++ (if enters effect.change then c ∷ [] else []);
  bans = bans_after effect.change f.bans;
  topic = topic_after effect.change f.topic;
  about = λ d. about-parts c effect f.about d i;
}

module _ (setup : Configured) (hash : List ℕ → List ℕ) (f : Facts) (caller d : ℕ) where
  by-number : (peer challenge : List ℕ) (now : ℕ) (same : Bool) → (d == (f.joins + 1)) ≡ same → (has_place setup f && has_joins f) ≡ true
      → Becomes setup hash f caller d (Join peer challenge now) (cond same (newcomer caller (next_sid f) peer challenge) (f.about d))
  by-number peer challenge now true is place = Becomes.joins peer challenge now (ap₂ ◌&&◌ place is) (eqb-true d (f.joins + 1) is)
  by-number peer challenge now false is place = Becomes.misses peer challenge now (ap₂ ◌&&◌ place is)

  by-place : (peer challenge : List ℕ) (now : ℕ) (accepted : Bool) → (has_place setup f && has_joins f) ≡ accepted
      → Becomes setup hash f caller d (Join peer challenge now) ((cond accepted (with_connection f caller peer challenge) f).about d)
  unfolding with_connection
  by-place peer challenge now true place = by-number peer challenge now (d == (f.joins + 1)) refl place
  by-place peer challenge now false place = Becomes.misses peer challenge now (ap (λ b. b && (d == (f.joins + 1))) place)

  pub becomes : (call : Call) → Becomes setup hash f caller d call ((after setup hash f caller call).about d)
  unfolding after happens without_connection
  becomes (Join peer challenge now) = by-place peer challenge now (has_place setup f && has_joins f) refl
  becomes (Line c bytes now) =
      subst (Becomes setup hash f caller d (Line c bytes now)) (sym (parts (d == c) (effect_of_line setup hash f c bytes now) (f.about d))) (Becomes.says c bytes now)
  becomes (Quit c) =
      subst (Becomes setup hash f caller d (Quit c)) (sym (parts (d == c) (departure (f.about c).stage (f.about c).sender.sid) (f.about d))) (Becomes.quits c)
  becomes (Take c count) = subst (Becomes setup hash f caller d (Take c count)) (take-one count (f.about d) (d == c)) (Becomes.takes c count)
