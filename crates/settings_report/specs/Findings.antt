-- Where a fault is, what stands there, and what of it may be shown.
use Rattle.std.specs.Prelude.{◌≡◌, ℕ, List, codes, Option, Some, None, IsSome, ◌⊎◌, ⊤}
use Rattle.std.specs.Option.{option_and_then, option_map}
use Rattle.std.specs.Borrow.{Bor}
use Rattle.toml.specs.Data.{Data, Items, Members, as_array, get, get_item, get_member, table}
use Rattle.toml.specs.View.{view}
use Rattle.hub_settings.specs.Unknown.{first_unknown}
use Rattle.settings_report.specs.FaultWords.{IsConcealed}
use Rattle.settings_report.specs.declared.entries.Flaw.{Flaw}
use Rattle.settings_report.specs.declared.findings.Finding.{Finding}
use Rattle.settings_report.specs.declared.findings.Found.{Found}
use Rattle.settings_report.specs.declared.findings.Found.TheVariants as found

abbrev pub text_of : Option (Bor (List ℕ)) → Option (List ℕ)
text_of = option_map (λ key. key.now)

-- what an entry of a list is, or what stands at a key of it
abbrev pub standing_in : Option (List ℕ) → Data → Option Data
standing_in None entry = Some entry
standing_in (Some inner) entry = get inner entry

-- an entry of a list, counted from 0
abbrev pub entry_of : Option ℕ → Items → Option Data
entry_of None items = None
entry_of (Some entry) items = get_item entry items

-- an entry of the list that a value is
abbrev pub entry_in : Option ℕ → Option Data → Option Data
entry_in entry value = option_and_then (entry_of entry) (option_and_then as_array value)

-- what was found is what stands there
abbrev pub IsWhatStands : Option Data → Found → Type 0
IsWhatStands stands (found.Value value) = stands ≡ Some (view value.now)
IsWhatStands stands (found.Secret value) = stands ≡ Some (view value.now)
IsWhatStands stands (found.Twice value) = stands ≡ Some (view value.now)
IsWhatStands stands found.Unknown = IsSome stands
IsWhatStands stands found.Surplus = IsSome stands
IsWhatStands stands found.Nothing = stands ≡ None

abbrev pub IsFlawOf : Data → Flaw → Type 0
IsFlawOf entry flaw = IsWhatStands (standing_in (text_of flaw.inner) entry) flaw.found

abbrev pub IsFlawIn : Members → Flaw → Type 0
IsFlawIn members flaw = IsFlawOf (table members) flaw

-- no key was found that is none
abbrev pub IsOfKnownKey : Found → Type 0
IsOfKnownKey (found.Value value) = ⊤
IsOfKnownKey (found.Secret value) = ⊤
IsOfKnownKey found.Unknown = ⊥
IsOfKnownKey found.Nothing = ⊤
IsOfKnownKey found.Surplus = ⊤
IsOfKnownKey (found.Twice value) = ⊤

-- where a key was found that is none, it is the first that is none of these
abbrev pub BlamesUnknown : List (List ℕ) → Members → Flaw → Type 0
BlamesUnknown known members flaw = IsOfKnownKey flaw.found ⊎ (text_of flaw.inner ≡ first_unknown known members)

-- what was found stands in this entry, which exists, or at a key of it
abbrev pub IsFoundAt : Option Data → Finding → Type 0
IsFoundAt entry finding = IsSome entry × IsWhatStands (option_and_then (standing_in (text_of finding.inner)) entry) finding.found

abbrev pub IsFoundAmong : Items → Finding → Type 0
IsFoundAmong items finding = IsFoundAt (entry_of finding.entry items) finding

abbrev pub IsFoundInList : Option Data → Finding → Type 0
IsFoundInList value finding = IsFoundAt (entry_in finding.entry value) finding

-- what was found stands at a key, or in an entry of the list there
abbrev pub IsFoundAtKey : Option ℕ → Option Data → Finding → Type 0
IsFoundAtKey None value finding = IsWhatStands value finding.found
IsFoundAtKey (Some entry) value finding = IsFoundAt (entry_in (Some entry) value) finding

abbrev pub IsFoundIn : Members → Finding → Type 0
IsFoundIn document finding = IsFoundAtKey finding.entry (get_member finding.key.now document) finding

-- the keys of an account whose values may be shown
abbrev pub IsOpenKey : Option (List ℕ) → Type 0
IsOpenKey None = ⊥
IsOpenKey (Some inner) = (inner ≡ codes "nick") ⊎ (inner ≡ codes "operator")

-- of an account no value is shown but that of its nick and of its operator
abbrev pub ConcealsAccount : Option (List ℕ) → Found → Type 0
ConcealsAccount inner found = IsOpenKey inner ⊎ IsConcealed found

abbrev pub FindingHidesPasswords : Finding → Type 0
FindingHidesPasswords finding = finding.key.now ≡ codes "account" → ConcealsAccount (text_of finding.inner) finding.found
