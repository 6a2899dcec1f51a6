-- The lines that are printed of a report.
use Rattle.std.specs.Prelude.{ℕ, zero, suc, List, [], ◌∷◌, ◌++◌, codes, Option, Some, None, string_bytes}
use Rattle.std.specs.Fmt.{decimal}
use Rattle.hub_settings.specs.Settings.{known_keys}
use Rattle.settings_report.specs.MenuTexts.{flaw_words}
use Rattle.settings_report.specs.declared.allowed.Allowed.{Allowed}
use Rattle.settings_report.specs.declared.allowed.Allowed.TheVariants as allowed
use Rattle.settings_report.specs.declared.fault.ReportedFault.{ReportedFault}
use Rattle.settings_report.specs.declared.places.TextPlace.{TextPlace}
use Rattle.settings_report.specs.declared.warnings.SettingsWarning.{SettingsWarning}

-- words with a comma and a blank between each two
abbrev pub with_commas : List (List ℕ) → List ℕ
with_commas [] = []
with_commas (word ∷ []) = word
with_commas (word ∷ next ∷ more) = word ++ 44 ∷ 32 ∷ with_commas (next ∷ more)

-- the keys of the settings
abbrev pub keys_text : List ℕ
keys_text = with_commas known_keys

-- what may stand at a place
abbrev pub allowed_text : Allowed → List ℕ
allowed_text (allowed.Words words) = words.now
allowed_text (allowed.Address example) = codes "an IPv4 address and a port, as " ++ example.now
allowed_text (allowed.Number low high) = codes "a whole number from " ++ decimal low ++ codes " to " ++ decimal high
allowed_text allowed.Keys = keys_text

-- a place: line and column
abbrev pub place_text : TextPlace → List ℕ
place_text place = decimal place.line ++ 58 ∷ decimal place.column ++ codes ": "

-- the number of an entry, behind a blank; 0 is none
abbrev pub entry_text : ℕ → List ℕ
entry_text zero = []
entry_text (suc before) = 32 ∷ decimal (suc before)

-- the key of an entry; an empty text is none
abbrev pub inner_text : List ℕ → List ℕ
inner_text [] = []
inner_text (b ∷ bs) = codes ", " ++ b ∷ bs

-- what stands at a key, and what is allowed there
abbrev pub told_at_key : List ℕ → ReportedFault → List ℕ
told_at_key key fault =
    key ++ (entry_text fault.entry ++ (inner_text (string_bytes fault.inner)
    ++ (codes ": found " ++ (string_bytes fault.found ++ (codes "; allowed: " ++ allowed_text fault.allowed)))))

-- a fault: its place, its key, what stands there, and what is allowed; of what is no TOML its place and why
abbrev pub told_at : Option (List ℕ) → ReportedFault → List ℕ
told_at None fault = codes "no TOML: " ++ string_bytes fault.found
told_at (Some key) fault = told_at_key key fault

abbrev pub fault_text : ReportedFault → List ℕ
fault_text fault = place_text fault.place ++ told_at fault.key fault

-- a warning: its place, its entry and the flaw of its text
abbrev pub warning_text : SettingsWarning → List ℕ
warning_text warning = place_text warning.place ++ codes "command " ++ decimal warning.entry ++ codes ", text: " ++ flaw_words warning.flaw
