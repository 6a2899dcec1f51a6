-- The hash that serves, and the end of a server that was asked for.
use Rattle.std.specs.Prelude.{◌≡◌, ◌⊎◌, ℕ, List, Option, Ok}
use Rattle.session_hash.specs.First24.{first_24}
use Rattle.session_hash.specs.Tiger.{tiger}
use Rattle.hub_settings.specs.Settings.{ServerSettings}
use Rattle.hub_settings.specs.declared.hash_name.HashName.{HashName}
use Rattle.hub_settings.specs.declared.hash_name.HashName.TheVariants as names
use Rattle.counted_io.specs.Parts.{AppendsFront}
use Rattle.hub_server.specs.ServerEnd.{EndsServing}
use Rattle.hub_startup.specs.Endings.{KeepsFromStarting, status_by, message_by}
use Rattle.hub_startup.specs.Files.{AreTables, HasAt, IsSeed, StartsAt}
use Rattle.hub_startup.specs.declared.fault.StartFault.{StartFault}

-- the digests are those of the hash with this name, Tiger's with the tables of the file at this path
abbrev pub IsHash : {R F : Type 0} → (R → List ℕ → F → Type 0) → (F → Option (List ℕ)) → R → HashName → List ℕ → (List ℕ → List ℕ) → Type 0
IsHash opens remaining files names.First24 path digest = (bytes : List ℕ) → digest bytes ≡ first_24 bytes
IsHash opens remaining files names.Tiger path digest =
    (tables : List ℕ) × HasAt opens remaining files path (λ left. AreTables left tables) × ((bytes : List ℕ) → digest bytes ≡ tiger tables bytes)

-- the first 32 bytes of the file at this path
abbrev pub IsSeedAt : {R F : Type 0} → (R → List ℕ → F → Type 0) → (F → Option (List ℕ)) → R → List ℕ → List ℕ → Type 0
IsSeedAt opens remaining files path seed = HasAt opens remaining files path (λ left. IsSeed left seed)

-- the settings that stand in the file at this path
abbrev pub AreAt : {R F : Type 0} → (R → List ℕ → F → Type 0) → (F → Option (List ℕ)) → R → List ℕ → ServerSettings → Type 0
AreAt opens remaining files path settings = (opening : ℕ) × StartsAt opens remaining files path opening (Ok settings)

-- it could not be started, and the line about that, or the front of it, was said last; or it was, and ended so
abbrev pub EndsServer : {E : Type 0} → (E → Option (List ℕ)) → E → ℕ → Type 0
EndsServer {E} contents errors status =
    ((fault : StartFault) × KeepsFromStarting fault × (status ≡ status_by fault) × ((before : E) × AppendsFront (contents before) (contents errors) (message_by fault)))
    ⊎ EndsServing contents errors status
