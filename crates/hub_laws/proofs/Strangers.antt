-- Others hear nothing of a line by which a user who is not present does not enter.
use Rattle.std.proofs.Common.{◌≡◌, ◌∙◌, sym, ap, refl, ℕ, Bool, false, ◌==◌, List, [], ◌∷◌, Option, cond, arith}
use Rattle.hub_laws.proofs.Words.{ConnState, Configured, Effect, Facts, Line, Outcome, SenderView, PreparedLine, Reading, Request, HubView, acts, after, effect_of_line, facts, false≢true, happens, is_present}
use Rattle.hub_laws.proofs.Words.{lets_in, line-outcome, owes, passes, proves, quit_line, revises, searches, share, shuts_out, stage_after}
use Rattle.hub_laws.specs.Routes.{StrangersAreNotHeard}

abbrev IsUnheard : SenderView → Effect → Type 0
IsUnheard own effect = is_present own.stage ≡ false → is_present (stage_after effect.change own.stage) ≡ false → effect.others ≡ []

module _ {hub : HubView} {own : SenderView} {line : PreparedLine} {now : ℕ} where
  unheard : {said : Option Reading} {request : Request} {effect : Effect} → Outcome hub own line now said request effect → IsUnheard own effect
  unheard (shuts_out deny) away still = ap (λ b. cond b (quit_line own.sender.sid ∷ []) []) away
  unheard (lets_in reading u logs account) away still = absurd (false≢true (sym still))
  unheard (proves reading at asks none) away still = absurd (false≢true (sym still))
  unheard (revises reading u at words none) away still = absurd (false≢true (sym away ∙ ap is_present at))
  unheard (acts reading done at operator asks does) away still = absurd (false≢true (sym away ∙ ap is_present at))
  unheard (searches reading at) away still = absurd (false≢true (sym away ∙ ap is_present at))
  unheard (passes reading at) away still = absurd (false≢true (sym away ∙ ap is_present at))
  unheard _ away still = refl

-- ---- the call

owes-others : (is_caller : Bool) (effect : Effect) (a : ConnState) → is_caller ≡ false → effect.others ≡ [] → owes is_caller effect a ≡ []
owes-others is_caller effect a other none = grind arith

stage-own : (c : ℕ) (effect : Effect) (f : Facts) → is_present (f.about c).stage ≡ false → is_present ((happens c effect f).about c).stage ≡ false
    → is_present (stage_after effect.change (f.about c).stage) ≡ false
unfolding happens
stage-own c effect f away still = grind arith

line-unheard : (setup : Configured) (hash : List ℕ → List ℕ) (f : Facts) (caller c d : ℕ) (bytes : List ℕ) (now : ℕ) → (d == c) ≡ false → is_present (f.about c).stage ≡ false
    → is_present ((after setup hash f caller (Line c bytes now)).about c).stage ≡ false → share setup hash f d (Line c bytes now) ≡ []
unfolding after
line-unheard setup hash f caller c d bytes now other away still =
    owes-others (d == c) (effect_of_line setup hash f c bytes now) (f.about d) other
    (unheard (line-outcome setup hash f c bytes now) away
    (stage-own c (effect_of_line setup hash f c bytes now) f away still))

pub strangers_are_not_heard : StrangersAreNotHeard
unfolding facts
strangers_are_not_heard setup hash h e c d bytes now is other away still = grind (arith, line-unheard)
