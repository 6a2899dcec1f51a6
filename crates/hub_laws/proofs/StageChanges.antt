-- Stages that differ, and whose line brings a connection to one.
use Rattle.std.proofs.Common.{◌≡◌, Bool, true, arith}
use Rattle.hub_laws.proofs.Words.{Change, Stage, stage_after, stage_next}
use Rattle.hub_laws.proofs.Words.stages

-- ---- stages that differ

pub gone-normal : stages.Gone ≡ stages.Normal → ⊥
gone-normal is = cc is

pub gone-verify : stages.Gone ≡ stages.Verify → ⊥
gone-verify is = cc is

pub identify-normal : stages.Identify ≡ stages.Normal → ⊥
identify-normal is = cc is

pub identify-verify : stages.Identify ≡ stages.Verify → ⊥
identify-verify is = cc is

pub normal-verify : stages.Normal ≡ stages.Verify → ⊥
normal-verify is = cc is

pub protocol-normal : stages.Protocol ≡ stages.Normal → ⊥
protocol-normal is = cc is

pub protocol-verify : stages.Protocol ≡ stages.Verify → ⊥
protocol-verify is = cc is

pub verify-normal : stages.Verify ≡ stages.Normal → ⊥
verify-normal is = cc is

-- ---- the line

-- its own, by this change
pub record Moves (same : Bool) (change : Change) (stage to : Stage) : Type 0 where
  pub is_caller : same ≡ true
  pub moves : stage_after change stage ≡ to

-- where it was not there before, and is not shut out
pub moves-to : (removed same : Bool) (change : Change) (stage to : Stage) → (stages.Gone ≡ to → ⊥) → (stage ≡ to → ⊥) → stage_next removed same change stage ≡ to → Moves same change stage to
moves-to removed same change stage to in_hub before is = grind arith
