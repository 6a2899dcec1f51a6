-- An answer that is what a definition wants, want of memory apart.
use Rattle.std.specs.Prelude.{◌≡◌, true, List, Result, Ok, Err}
use Rattle.std.specs.Result.{is_ok}
use Rattle.inf_fields.specs.Field.{Field}
use Rattle.inf_fields.specs.declared.fault.InfFault.{InfFault}
use Rattle.inf_fields.specs.declared.fault.InfFault.TheVariants.{Memory, BadName, TooMany}

-- the answer is the one that is wanted; `Memory` says nothing
abbrev pub GivesFields : Result (List Field) InfFault → Result (List Field) InfFault → Type 0
GivesFields (Ok fields) wanted = wanted ≡ Ok fields
GivesFields (Err Memory) wanted = Unit {0}
GivesFields (Err BadName) wanted = wanted ≡ Err BadName
GivesFields (Err TooMany) wanted = wanted ≡ Err TooMany

-- the same of a change: after it the fields are the ones that are wanted, and after a refusal those before; `Memory`
-- stands in place of no other refusal
abbrev pub GivesChange : Result (Unit {0}) InfFault → Result (List Field) InfFault → List Field → List Field → Type 0
GivesChange (Ok _) wanted old new = wanted ≡ Ok new
GivesChange (Err Memory) wanted old new = (is_ok wanted ≡ true) × (new ≡ old)
GivesChange (Err BadName) wanted old new = (wanted ≡ Err BadName) × (new ≡ old)
GivesChange (Err TooMany) wanted old new = (wanted ≡ Err TooMany) × (new ≡ old)
