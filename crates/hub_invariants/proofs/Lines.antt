-- The effect of a line suits the stage of its connection.
use Rattle.std.proofs.Common.{◌≡◌, refl, ℕ, false, List, Option, arith}
use Rattle.adc_line.specs.Lines.{Reading}
use Rattle.login_state.specs.declared.stage.Stage.{Stage}
use Rattle.login_state.specs.declared.stage.Stage.TheVariants as stages
use Rattle.hub_rules.specs.declared.effect.Effect.{Effect}
use Rattle.login_state.specs.declared.request.Request.{Request}
use Rattle.hub_rules.specs.Configured.{Configured}
use Rattle.hub_rules.specs.Effects.{is_over, is_present}
use Rattle.hub_rules.specs.Facts.{Facts, effect_of_line}
use Rattle.hub_rules.specs.Views.{SenderView, PreparedLine, HubView}
use Rattle.hub_invariants.proofs.Fits.{Fits, fits-quiet}
use Rattle.hub_invariants.proofs.Outcomes.{Outcome, greets, lets_in, line-outcome, proves, shuts_out, waits}

-- whatever comes of a line before its connection has a user fits
fits-at : (own : SenderView) (effect : Effect) (stage : Stage) → own.stage ≡ stage → is_over stage ≡ false → is_present stage ≡ false → Fits own.stage effect
fits-at own effect stage at still new = grind arith

module _ {hub : HubView} {own : SenderView} {line : PreparedLine} {now : ℕ} where
  fits-outcome : {said : Option Reading} {request : Request} {effect : Effect} → Outcome hub own line now said request effect → Fits own.stage effect
  fits-outcome (greets reading features at is) = fits-at own _ stages.Protocol at refl refl
  fits-outcome (waits reading u logs account) = fits-at own _ stages.Identify logs.at refl refl
  fits-outcome (lets_in reading u logs account) = fits-at own _ stages.Identify logs.at refl refl
  fits-outcome (proves reading at asks none) = fits-at own _ stages.Verify at refl refl
  fits-outcome (shuts_out deny) = fits-quiet own.stage _ refl (λ over. refl)
  fits-outcome _ = fits-quiet own.stage _ refl (λ over. over)

pub fits-line : (setup : Configured) (hash : List ℕ → List ℕ) (f : Facts) (c : ℕ) (bytes : List ℕ) (now : ℕ) → Fits (f.about c).stage (effect_of_line setup hash f c bytes now)
fits-line setup hash f c bytes now = fits-outcome (line-outcome setup hash f c bytes now)
