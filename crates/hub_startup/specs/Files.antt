-- What is read of the files that the settings name, and of the settings' own.
use Rattle.std.specs.Prelude.{◌≡◌, ◌≤◌, ◌⊎◌, ⊤, ℕ, List, length, take, codes, Option, Some, None, Result, Ok, Err}
use Rattle.std.specs.Str.{IsUtf8}
use Rattle.session_hash.specs.Tables.{words_from}
use Rattle.hub_settings.specs.Settings.{ServerSettings}
use Rattle.hub_settings.specs.Reading.{ReadsSettings}
use Rattle.hub_settings.specs.declared.fault.SettingsFault.TheVariants.{Text, Key}
use Rattle.hub_endings.specs.declared.ending.Ending.{Ending}
use Rattle.hub_endings.specs.declared.ending.Ending.TheVariants as endings
use Rattle.hub_startup.specs.declared.fault.StartFault.{StartFault}
use Rattle.hub_startup.specs.declared.fault.StartFault.TheVariants as starts

-- the file that this word stands for could not be read, or memory ran out
abbrev pub IsFileFault : List ℕ → StartFault → Type 0
IsFileFault word (starts.Settings said) = said.now ≡ word
IsFileFault word (starts.Key key) = ⊥
IsFileFault word (starts.Ended ending) = ending ≡ endings.Memory

-- the file of Tiger's tables could not be had, or memory ran out
abbrev pub IsTablesFault : StartFault → Type 0
IsTablesFault fault = (fault ≡ starts.Ended endings.Tables) ⊎ (fault ≡ starts.Ended endings.Memory)

-- the first 32 of the bytes that are left
abbrev pub IsSeed : Option (List ℕ) → List ℕ → Type 0
IsSeed None seed = ⊤
IsSeed (Some bytes) seed = (32 ≤ length bytes) × (seed ≡ take 32 bytes)

-- the words that all the bytes hold which are left, 8,192 in number
abbrev pub AreTables : Option (List ℕ) → List ℕ → Type 0
AreTables None tables = ⊤
AreTables (Some bytes) tables = (length bytes ≡ 8_192) × (tables ≡ words_from 1024 bytes)

-- all the bytes that are left
abbrev pub AreAllBytes : Option (List ℕ) → List ℕ → Type 0
AreAllBytes None bytes = ⊤
AreAllBytes (Some left) bytes = bytes ≡ left

-- the first so many of the bytes that are left, or all where there are fewer
abbrev pub AreFirstBytes : ℕ → Option (List ℕ) → List ℕ → Type 0
AreFirstBytes most None bytes = ⊤
AreFirstBytes most (Some left) bytes = bytes ≡ take most left

-- what these bytes are as the settings of a hub that opens at this moment
abbrev pub IsStartOf : List ℕ → ℕ → Result ServerSettings StartFault → Type 0
IsStartOf bytes opening (Ok settings) = IsUtf8 bytes × ReadsSettings bytes opening (Ok settings)
IsStartOf bytes opening (Err (starts.Settings word)) = (word.now ≡ codes "text") × (IsUtf8 bytes → ReadsSettings bytes opening (Err Text))
IsStartOf bytes opening (Err (starts.Key key)) = IsUtf8 bytes × ReadsSettings bytes opening (Err (Key key))
IsStartOf bytes opening (Err (starts.Ended ending)) = ending ≡ endings.Memory

-- it could not be read
abbrev pub IsUnread : Result ServerSettings StartFault → Type 0
IsUnread (Ok settings) = ⊥
IsUnread (Err fault) = IsFileFault (codes "file") fault

-- the same of a reader that has these bytes left, unless it could not be read
abbrev pub StartsBy : Option (List ℕ) → ℕ → Result ServerSettings StartFault → Type 0
StartsBy left opening result = IsUnread result ⊎ ((bytes : List ℕ) × AreAllBytes left bytes × IsStartOf bytes opening result)

-- a file that is opened at this path, and that this holds of the bytes that it has left
abbrev pub HasAt : {R F : Type 0} → (R → List ℕ → F → Type 0) → (F → Option (List ℕ)) → R → List ℕ → (Option (List ℕ) → Type 0) → Type 0
HasAt {R} {F} opens remaining files path holds = (file : F) × opens files path file × holds (remaining file)

-- the settings of a hub that opens at this moment are those of the file at this path, unless it could not be read
abbrev pub StartsAt : {R F : Type 0} → (R → List ℕ → F → Type 0) → (F → Option (List ℕ)) → R → List ℕ → ℕ → Result ServerSettings StartFault → Type 0
StartsAt opens remaining files path opening result = IsUnread result ⊎ HasAt opens remaining files path (λ left. StartsBy left opening result)
