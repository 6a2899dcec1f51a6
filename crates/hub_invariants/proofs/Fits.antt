-- Effects of lines let the facts stay sound.
use Rattle.std.proofs.Common.{◌≡◌, refl, ℕ, true, false, arith}
use Rattle.login_state.specs.declared.stage.Stage.{Stage}
use Rattle.hub_rules.specs.declared.effect.Effect.{Effect}
use Rattle.hub_rules.specs.Effects.{is_over, is_present, departure}
use Rattle.hub_rules.specs.Facts.{enters}
use Rattle.hub_invariants.specs.Afterwards.{stage_after}

-- an effect suits the stage of the connection that it is of
pub record Fits (stage : Stage) (effect : Effect) : Type 0 where
  -- a connection that is shut out stays so
  pub stays_over : is_over stage ≡ true → is_over (stage_after effect.change stage) ≡ true
  -- nobody enters twice
  pub enters_once : enters effect.change ≡ true → is_present stage ≡ false

-- nobody enters, and who is shut out stays so
pub fits-quiet : (stage : Stage) (effect : Effect) → enters effect.change ≡ false → (is_over stage ≡ true → is_over (stage_after effect.change stage) ≡ true) → Fits stage effect
fits-quiet stage effect quiet over = grind arith

pub fits-departure : (stage of : Stage) (sid : ℕ) → Fits stage (departure of sid)
fits-departure stage of sid = fits-quiet stage (departure of sid) refl (λ over. refl)
