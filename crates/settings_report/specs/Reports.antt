-- The report on the text of a settings file.
use Rattle.std.specs.Prelude.{◌≡◌, ◌⊎◌, ℕ, suc, List, codes, take, Option, Some, None, Ok, Err, string_bytes}
use Rattle.std.specs.Option.{option_and_then, option_map_or}
use Rattle.std.specs.Str.{IsUtf8}
use Rattle.std.specs.Str.Lossy.{utf8_valid_len}
use Rattle.toml.specs.Data.{Data, Items, Members, as_array, get_member, item, no_items}
use Rattle.toml.specs.Parse.{parse_document}
use Rattle.hub_settings.specs.Reading.{ReadsSettings}
use Rattle.hub_settings.specs.Settings.{ServerSettings}
use Rattle.hub_settings.specs.declared.fault.SettingsFault.TheVariants as faults
use Rattle.settings_report.specs.Faults.{Shows}
use Rattle.settings_report.specs.Places.{IsBehind}
use Rattle.settings_report.specs.Summaries.{Summarizes}
use Rattle.settings_report.specs.Warned.{WarnsOfMenu, menu_in}
use Rattle.settings_report.specs.declared.report.SettingsReport.{SettingsReport}
use Rattle.settings_report.specs.declared.report.SettingsReport.TheVariants.{Well, Faulty}

-- the fault that a hub meets in the text, by the key that is named
abbrev pub IsBlamed : List ℕ → Option (List ℕ) → Type 0
IsBlamed text None = ReadsSettings text 0 (Err faults.Text)
IsBlamed text (Some key) = ReadsSettings text 0 (Err (faults.Key key))

-- a hub that opens at moment 0 reads settings of this summary, or meets this fault
abbrev pub Summarises : List ℕ → SettingsReport → Type 0
Summarises text (Well summary warnings) = (settings : ServerSettings) × ReadsSettings text 0 (Ok settings) × Summarizes settings summary
Summarises text (Faulty fault) = IsBlamed text fault.key

-- how many entries a list has
abbrev pub items_len : Items → ℕ
items_len no_items = 0
items_len (item first more) = suc (items_len more)

-- how many entries stand in a list; none where there is no list
abbrev pub entries_of : Option Data → ℕ
entries_of value = option_map_or items_len (option_and_then as_array value) 0

-- the summary counts the entries of the document's lists
abbrev pub CountsEntries : List ℕ → SettingsReport → Type 0
CountsEntries text (Well summary warnings) =
    (document : Members) × (parse_document text ≡ Some document)
    × (summary.accounts ≡ entries_of (get_member (codes "account") document))
    × (summary.commands ≡ entries_of (get_member (codes "command") document))
CountsEntries text (Faulty fault) = Unit {0}

-- the warnings are those of the document's menu
abbrev pub Warns : List ℕ → SettingsReport → Type 0
Warns text (Well summary warnings) = (document : Members) × (parse_document text ≡ Some document) × WarnsOfMenu (menu_in document) warnings.items
Warns text (Faulty fault) = Unit {0}

-- all that is told of the bytes of a text
pub record ReportsText (text : List ℕ) (report : SettingsReport) : Type 0 where
  pub tells : Summarises text report
  pub shows : Shows text report
  pub counts : CountsEntries text report
  pub warns : Warns text report

-- the fault of bytes that are no text: no key, and the place behind the text with which they begin
abbrev pub IsNoText : List ℕ → SettingsReport → Type 0
IsNoText bytes (Well summary warnings) = ⊥
IsNoText bytes (Faulty fault) =
    (fault.key ≡ None) × IsBehind (take (utf8_valid_len bytes) bytes) fault.place × (string_bytes fault.found ≡ codes "a byte that is not UTF-8")

abbrev pub ReportsFile : List ℕ → SettingsReport → Type 0
ReportsFile bytes report = (IsUtf8 bytes × ReportsText bytes report) ⊎ (¬ (IsUtf8 bytes) × IsNoText bytes report)
