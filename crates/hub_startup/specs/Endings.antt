-- The tasks that the program is asked for, and its endings.
use Rattle.std.specs.Prelude.{◌≡◌, ℕ, List, [], ◌∷◌, ◌++◌, codes, Option}
use Rattle.std.specs.Io.KnownBytes.{Keeps}
use Rattle.counted_io.specs.declared.failures.Failures.{Failures}
use Rattle.hub_rules.specs.Configured.{Configured}
use Rattle.hub_rules.specs.Configured.{plain_hub}
use Rattle.session_hash.specs.First24.{first_24}
use Rattle.hub_endings.specs.Endings.{status_of, message_of}
use Rattle.hub_endings.specs.declared.ending.Ending.{Ending}
use Rattle.hub_endings.specs.declared.ending.Ending.TheVariants as endings
use Rattle.hub_stdio.specs.declared.fault.RunFault.{RunFault}
use Rattle.hub_stdio.specs.declared.fault.RunFault.TheVariants as faults
use Rattle.hub_stdio.specs.Faults.{StopsBy, NothingFailed, FailedCalls, told}
use Rattle.counted_io.specs.Parts.{AppendsFront}
use Rattle.hub_stdio.specs.Runs.{IsServed}
use Rattle.hub_startup.specs.declared.fault.StartFault.{StartFault}
use Rattle.hub_startup.specs.declared.fault.StartFault.TheVariants as starts

abbrev pub ending_of : RunFault → Ending
ending_of faults.Memory = endings.Memory
ending_of faults.Read = endings.Transfer
ending_of faults.Write = endings.Transfer
ending_of faults.TooLong = endings.Transfer
ending_of faults.Turns = endings.Transfer

-- the one word after the program's name
abbrev pub AsksForStdin : List (List ℕ) → Type 0
AsksForStdin words = words ≡ codes "stdin" ∷ []

-- the word serve, and the path of this settings file
abbrev pub AsksToServeFile : List (List ℕ) → List ℕ → Type 0
AsksToServeFile words path = words ≡ codes "serve" ∷ path ∷ []

-- the same of any file
abbrev pub AsksToServe : List (List ℕ) → Type 0
AsksToServe words = (path : List ℕ) × AsksToServeFile words path

-- the hub of a connection on standard input: named Hub, with nothing that settings may add, for 512 users, opened at moment 0
abbrev pub stdin_setup : Configured
stdin_setup = plain_hub (codes "Hub")

-- what an ending says of the input and the output
abbrev pub EndsBy : Ending → List (List ℕ) → FailedCalls → FailedCalls → Type 0
EndsBy endings.Served words before after =
    AsksForStdin words × IsServed stdin_setup first_24 before.unread after.unread before.held after.held × NothingFailed before after
EndsBy endings.Usage words before after =
    (AsksForStdin words → ⊥) × Keeps before.unread after.unread × Keeps before.held after.held × NothingFailed before after
EndsBy endings.Tables words before after = ⊥
EndsBy endings.Address words before after = ⊥
EndsBy endings.Memory words before after = AsksForStdin words × StopsBy faults.Memory stdin_setup first_24 before after
EndsBy endings.Transfer words before after =
    AsksForStdin words × ((fault : RunFault) × (ending_of fault ≡ endings.Transfer) × StopsBy fault stdin_setup first_24 before after)

-- the status of a program that started no server
abbrev pub status_by : StartFault → ℕ
status_by (starts.Settings word) = 1
status_by (starts.Key key) = 1
status_by (starts.Ended ending) = status_of ending

-- the line about a key of the settings, or a word for them
abbrev pub key_message : List ℕ → List ℕ
key_message key = codes "adc_hub: settings: " ++ (key ++ 10 ∷ [])

-- what is said where no server was started
abbrev pub message_by : StartFault → List ℕ
message_by (starts.Settings word) = key_message word.now
message_by (starts.Key key) = key_message key
message_by (starts.Ended ending) = message_of ending

-- the status is that of an ending that the words, the input and the output bear out
abbrev pub Ends : ℕ → List (List ℕ) → FailedCalls → FailedCalls → Type 0
Ends status words before after = (ending : Ending) × (status ≡ status_of ending) × EndsBy ending words before after

-- the same, unless a server is asked for, by what input and output tell of themselves
abbrev pub EndsOver : {I O : Type 0} → ℕ → List (List ℕ) → (I → Option (List ℕ)) → (I → Failures) → I → I
    → (O → Option (List ℕ)) → (O → Failures) → O → O → Type 0
EndsOver status words remains reads before after holds writes old new =
    (AsksToServe words → ⊥)
    → Ends status words (told (remains before) (holds old) (reads before) (writes old)) (told (remains after) (holds new) (reads after) (writes new))

-- the message of that ending was written, or its front
abbrev pub TellsEnding : ℕ → Option (List ℕ) → Option (List ℕ) → Type 0
TellsEnding status before now = (ending : Ending) × (status ≡ status_of ending) × AppendsFront before now (message_of ending)

-- a fault of the settings, of the tables, or want of memory
abbrev pub KeepsFromStarting : StartFault → Type 0
KeepsFromStarting (starts.Settings word) = Unit {0}
KeepsFromStarting (starts.Key key) = Unit {0}
KeepsFromStarting (starts.Ended endings.Tables) = Unit {0}
KeepsFromStarting (starts.Ended endings.Memory) = Unit {0}
KeepsFromStarting (starts.Ended endings.Served) = ⊥
KeepsFromStarting (starts.Ended endings.Usage) = ⊥
KeepsFromStarting (starts.Ended endings.Address) = ⊥
KeepsFromStarting (starts.Ended endings.Transfer) = ⊥
