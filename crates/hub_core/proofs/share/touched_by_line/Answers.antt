use Rattle.std.proofs.Common.{refl, sym}
use Rattle.hub_core.proofs.Concerned.{removed-none}
use Rattle.hub_core.proofs.share.touched_by_line.Goals as goal

pub returns-in-Some : goal.returns-in-Some
returns-in-Some c = record { owed = λ _ _ _ _. refl; removed = λ _ _. refl; fallen = λ _. refl }

pub returns-in-None : goal.returns-in-None
returns-in-None c = record {
  owed = c.touched_by.ensures.owed;
  removed = λ sid is. absurd (removed-none c.args.effect.now.change sid (sym c.in-None.ensures) is);
  fallen = c.touched_by.ensures.fallen;
}
