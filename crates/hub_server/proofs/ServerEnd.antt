-- The status 0 is that of a server that has served.
use Rattle.std.proofs.Common.{◌≡◌, refl, arith}
use Rattle.hub_endings.specs.Endings.{status_of}
use Rattle.hub_endings.specs.declared.ending.Ending.{Ending}
use Rattle.hub_endings.specs.declared.ending.Ending.TheVariants as endings

pub is-served : (ending : Ending) → status_of ending ≡ 0 → ending ≡ endings.Served
is-served endings.Served is = refl
is-served endings.Usage is = absurd (omega (arith, is))
is-served endings.Tables is = absurd (omega (arith, is))
is-served endings.Address is = absurd (omega (arith, is))
is-served endings.Memory is = absurd (omega (arith, is))
is-served endings.Transfer is = absurd (omega (arith, is))
