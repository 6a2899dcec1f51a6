-- What may stand at a place of the settings.
use Rattle.std.specs.Prelude.{◌≡◌, ℕ, List, codes, Option, Some, None}
use Rattle.hub_settings.specs.Kinds as kinds
use Rattle.hub_settings.specs.Kinds.{SettingKind}
use Rattle.settings_report.specs.declared.allowed.Allowed.{Allowed}
use Rattle.settings_report.specs.declared.allowed.Allowed.TheVariants as allowed

abbrev pub SaysAllowed : List ℕ → Allowed → Type 0
SaysAllowed words (allowed.Words said) = said.now ≡ words
SaysAllowed words other = ⊥

abbrev pub GivesExample : List ℕ → Allowed → Type 0
GivesExample address (allowed.Address example) = example.now ≡ address
GivesExample address other = ⊥

-- what may stand at a key of this kind
abbrev pub IsAllowedFor : SettingKind → Allowed → Type 0
IsAllowedFor (kinds.SomeText default) allowed = SaysAllowed (codes "a text that is not empty") allowed
IsAllowedFor (kinds.Text default) allowed = SaysAllowed (codes "a text") allowed
IsAllowedFor (kinds.Address default) allowed = GivesExample default allowed
IsAllowedFor (kinds.Hash default) allowed = SaysAllowed (codes "tiger or first24") allowed
IsAllowedFor kinds.Truth allowed = SaysAllowed (codes "true or false") allowed
IsAllowedFor (kinds.Number low high default) given = given ≡ allowed.Number low high
IsAllowedFor kinds.Accounts allowed = SaysAllowed (codes "a list of tables, [[account]]") allowed
IsAllowedFor kinds.Commands allowed = SaysAllowed (codes "a list of tables, [[command]]") allowed

-- what may stand at a key of this kind; one of the keys, if there is no such key
abbrev pub IsAllowedAt : Option SettingKind → Allowed → Type 0
IsAllowedAt None given = given ≡ allowed.Keys
IsAllowedAt (Some kind) given = IsAllowedFor kind given
