-- The promise of reading a settings file.
use Rattle.std.specs.Prelude.{◌≡◌, ℕ, List, Option, Some, None, Result, Ok, Err}
use Rattle.std.specs.declared.net.socket_addr.SocketAddrV4.{SocketAddrV4}
use Rattle.toml.specs.Data.{Members}
use Rattle.toml.specs.Parse.{parse_document}
use Rattle.hub_settings.specs.declared.fault.SettingsFault.{SettingsFault}
use Rattle.hub_settings.specs.declared.fault.SettingsFault.TheVariants.{Memory, Text, Key}
use Rattle.hub_settings.specs.Settings.{ListensAt, ServerSettings, settings}

-- the text is a TOML document whose table comes to this, a hub's settings or the key that is at fault
abbrev pub ComesTo : List ℕ → ℕ → Result ServerSettings (List ℕ) → Type 0
ComesTo text opening wanted =
    (ms : Members) × (listen : Option SocketAddrV4) × (parse_document text ≡ Some ms) × ListensAt ms listen × (settings opening listen ms ≡ wanted)

abbrev pub ReadsSettings : List ℕ → ℕ → Result ServerSettings SettingsFault → Type 0
ReadsSettings text opening (Ok settings) = ComesTo text opening (Ok settings)
ReadsSettings text opening (Err Memory) = Unit {0}
ReadsSettings text opening (Err Text) = parse_document text ≡ None
ReadsSettings text opening (Err (Key key)) = ComesTo text opening (Err key)
