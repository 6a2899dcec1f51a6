-- The fault of a settings file, as it is told.
use Rattle.std.specs.Prelude.{◌≡◌, ℕ, List, [], codes, Option, Some, None, string_bytes, ◌⊎◌, true}
use Rattle.std.specs.Option.{unwrap_or}
use Rattle.hub_settings.specs.Settings.{kind_of}
use Rattle.settings_report.specs.Allowances.{IsAllowedAt}
use Rattle.hub_settings.specs.Unknown.{is_among}
use Rattle.toml.specs.Data.{Members}
use Rattle.toml.specs.Parse.{parse_document}
use Rattle.settings_report.specs.FaultWords.{IsFindingText, concealing_words}
use Rattle.settings_report.specs.Findings as findings
use Rattle.settings_report.specs.Findings.{IsFoundIn, text_of}
use Rattle.settings_report.specs.Places.{after}
use Rattle.settings_report.specs.declared.fault.ReportedFault.{ReportedFault}
use Rattle.settings_report.specs.declared.findings.Finding.{Finding}
use Rattle.settings_report.specs.declared.report.SettingsReport.{SettingsReport}
use Rattle.settings_report.specs.declared.report.SettingsReport.TheVariants.{Well, Faulty}

-- an entry counted from 1; 0 for none
abbrev pub counted : Option ℕ → ℕ
counted None = 0
counted (Some entry) = after entry

-- the fault tells what was found
pub record TellsFinding (finding : Finding) (fault : ReportedFault) : Type 0 where
  pub key : fault.key ≡ Some finding.key.now
  pub entry : fault.entry ≡ counted finding.entry
  pub inner : string_bytes fault.inner ≡ unwrap_or (text_of finding.inner) []
  pub found : IsFindingText finding.found (string_bytes fault.found)
  pub allowed : fault.allowed ≡ finding.allowed

-- of an account a fault shows no value but that of its nick and of its operator: all other words for what stands there are of these
abbrev pub HidesPasswords : ReportedFault → Type 0
HidesPasswords fault =
    fault.key ≡ Some (codes "account")
    → ((string_bytes fault.inner ≡ codes "nick") ⊎ (string_bytes fault.inner ≡ codes "operator"))
    ⊎ (is_among concealing_words (string_bytes fault.found) ≡ true)

-- what is said to be allowed at a key is what its kind allows
abbrev pub IsAllowedThere : Finding → Type 0
IsAllowedThere finding = finding.entry ≡ None → IsAllowedAt (kind_of finding.key.now) finding.allowed

-- the fault tells what stands at its place in this document, and what is allowed there
abbrev pub IsFaultIn : Members → ReportedFault → Type 0
IsFaultIn document fault =
    (finding : Finding) × IsFoundIn document finding × findings.FindingHidesPasswords finding × IsAllowedThere finding × TellsFinding finding fault

-- the same of the document that is written in a text; of a text that is no document nothing was found
abbrev pub ShowsAt : List ℕ → Option (List ℕ) → ReportedFault → Type 0
ShowsAt text None fault = Unit {0}
ShowsAt text (Some key) fault = (document : Members) × (parse_document text ≡ Some document) × IsFaultIn document fault

abbrev pub Shows : List ℕ → SettingsReport → Type 0
Shows text (Well summary warnings) = Unit {0}
Shows text (Faulty fault) = ShowsAt text fault.key fault × HidesPasswords fault
