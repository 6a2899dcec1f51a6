-- A prepared line as a reader of it sees it.
use Rattle.std.specs.Prelude.{◌≡◌, ◌≢◌, ℕ, List, length, Ok, Err}
use Rattle.adc_line.specs.declared.fault.LineFault.{LineFault}
use Rattle.adc_line.specs.Lines.{reading}
use Rattle.hub_setup.specs.declared.preparation.Says.{Says}
use Rattle.hub_setup.specs.declared.preparation.Says.TheVariants.{Nothing, Message, NoMessage}

abbrev pub IsSaid : Says → List ℕ → Type 0
IsSaid Nothing bytes = length bytes ≡ 0
IsSaid (Message line) bytes = (length bytes ≢ 0) × (reading bytes ≡ Ok line.now)
IsSaid NoMessage bytes = (length bytes ≢ 0) × ((fault : LineFault) × (reading bytes ≡ Err fault))
