-- The warnings of a menu: of its entries in order, and in each of its flaws in order.
use Rattle.std.specs.Prelude.{◌≡◌, ℕ, suc, true, false, List, [], ◌∷◌, ◌++◌, codes, Option, Some, None}
use Rattle.std.specs.Option.{option_and_then, unwrap_or}
use Rattle.toml.specs.Data.{Data, Items, Members, as_array, as_str, get, get_member, item, no_items}
use Rattle.settings_report.specs.MenuTexts.{TellsFlaw}
use Rattle.settings_report.specs.Places.{after}
use Rattle.settings_report.specs.declared.menu_texts.TextFlaw.{TextFlaw}
use Rattle.settings_report.specs.declared.menu_texts.TextFlaw.TheVariants.{Unended, CarriageReturn, NoMessage}
use Rattle.settings_report.specs.declared.warnings.SettingsWarning.{SettingsWarning}

-- the entry with this number, counted from 1, is warned of this flaw exactly if its text has it
abbrev pub WarnsOf : ℕ → List ℕ → TextFlaw → List SettingsWarning → Type 0
WarnsOf number text flaw [] = TellsFlaw flaw text false
WarnsOf number text flaw (warning ∷ []) = TellsFlaw flaw text true × (warning.entry ≡ number) × (warning.flaw ≡ flaw)
WarnsOf number text flaw (warning ∷ other ∷ more) = ⊥

-- the same of each flaw
pub record WarnsOfText (number : ℕ) (text : List ℕ) (warnings : List SettingsWarning) : Type 0 where
  pub ends : List SettingsWarning
  pub returns : List SettingsWarning
  pub messages : List SettingsWarning
  pub are : warnings ≡ (ends ++ returns) ++ messages
  pub unended : WarnsOf number text Unended ends
  pub returned : WarnsOf number text CarriageReturn returns
  pub other : WarnsOf number text NoMessage messages

-- the text of an entry; a line's end alone where it is no text
abbrev pub text_in : Data → List ℕ
text_in value = unwrap_or (as_str value) (codes "\n")

-- the same of an entry, which is warned of nothing where it has no text
abbrev pub WarnsOfEntry : ℕ → Option Data → List SettingsWarning → Type 0
WarnsOfEntry number None warnings = warnings ≡ []
WarnsOfEntry number (Some value) warnings = WarnsOfText number (text_in value) warnings

-- the same of all entries, of which so many stand before them
abbrev pub WarnsOfItems : ℕ → Items → List SettingsWarning → Type 0
WarnsOfItems before no_items warnings = warnings ≡ []
WarnsOfItems before (item first more) warnings =
    (own : List SettingsWarning) × (others : List SettingsWarning) × (warnings ≡ own ++ others) × WarnsOfEntry (after before) (get (codes "text") first) own
    × WarnsOfItems (suc before) more others

-- the list of the menu's entries, if the document has one
abbrev pub menu_in : Members → Option Items
menu_in document = option_and_then as_array (get_member (codes "command") document)

-- the same of the menu; where there is none there is nothing to warn of
abbrev pub WarnsOfMenu : Option Items → List SettingsWarning → Type 0
WarnsOfMenu None warnings = warnings ≡ []
WarnsOfMenu (Some items) warnings = WarnsOfItems 0 items warnings
