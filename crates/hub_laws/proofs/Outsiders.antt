-- A call of another shares out nothing to a connection whose user is not present.
use Rattle.std.proofs.Common.{◌≡◌, ◌∙◌, sym, ap₂, refl, ℕ, Bool, false, ◌&&◌, ◌==◌, List, [], ◌++◌, cond, arith}
use Rattle.hub_laws.proofs.Words.{ConnState, Call, Configured, Effect, Facts, Join, Line, Quit, Stage, Take, departure, effect_of_line, eqb-sym, facts, hears_those, is_present, owes, share}
use Rattle.hub_laws.proofs.Words.stages
use Rattle.hub_laws.specs.SenderOrder.{is_of}
use Rattle.hub_laws.specs.Outsiders.{OutsidersHearNothing}
use Rattle.hub_laws.proofs.Owed.{owed-nothing}

pub absent-stage : (stage : Stage) → (stage ≡ stages.Normal → ⊥) → is_present stage ≡ false
absent-stage stage absent = grind arith

pub owes-absent : (same : Bool) (effect : Effect) (a : ConnState) → same ≡ false → is_present a.stage ≡ false → owes same effect a ≡ []
owes-absent same effect a other absent =
    ap₂ (λ p b. cond (p && hears_those same effect.hearers a) effect.others [] ++ cond b effect.own []) absent other

pub other-way : (c d : ℕ) → (c == d) ≡ false → (d == c) ≡ false
other-way c d other = sym (eqb-sym c d (c == d) (d == c) refl refl) ∙ other

absent-share : (setup : Configured) (hash : List ℕ → List ℕ) (f : Facts) (d : ℕ) (call : Call) → is_present (f.about d).stage ≡ false → is_of d call ≡ false
    → share setup hash f d call ≡ []
absent-share setup hash f d (Line c bytes now) absent other = owes-absent (d == c) (effect_of_line setup hash f c bytes now) (f.about d) (other-way c d other) absent
absent-share setup hash f d (Quit c) absent other = owes-absent (d == c) (departure (f.about c).stage (f.about c).sender.sid) (f.about d) (other-way c d other) absent
absent-share setup hash f d (Join peer challenge now) absent other = refl
absent-share setup hash f d (Take c count) absent other = refl

pub outsiders_hear_nothing : OutsidersHearNothing
outsiders_hear_nothing setup hash h e d absent other =
    owed-nothing setup hash h e d (absent-share setup hash (facts setup hash h) d e.call (absent-stage ((facts setup hash h).about d).stage absent) other)
