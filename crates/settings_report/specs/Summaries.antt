-- The summary of settings.
use Rattle.std.specs.Prelude.{◌≡◌, ℕ, ◌+◌, List, codes}
use Rattle.hub_settings.specs.declared.hash_name.HashName.{HashName}
use Rattle.hub_settings.specs.declared.hash_name.HashName.TheVariants.{Tiger, First24}
use Rattle.hub_settings.specs.Settings.{ServerSettings}
use Rattle.settings_report.specs.declared.summary.Summary.{Summary}

abbrev pub Summarizes : ServerSettings → Summary → Type 0
Summarizes settings summary =
    (summary.listen ≡ settings.listen) × (summary.hash ≡ settings.hash) × (summary.descriptors ≡ settings.hub.plain.max_users + 32)

-- the hash as the settings call it
abbrev pub hash_word : HashName → List ℕ
hash_word Tiger = codes "tiger"
hash_word First24 = codes "first24"
