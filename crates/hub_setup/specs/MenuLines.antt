-- An entry of the clients' menus, as it is kept.
use Rattle.std.specs.Prelude.{◌≡◌}
use Rattle.std.specs.Option.{option_map}
use Rattle.std.specs.String.{string_bytes}
use Rattle.hub_rules.specs.Configured.{ConfiguredEntry}
use Rattle.hub_rules.specs.Texts.{menu_line}
use Rattle.hub_setup.specs.declared.menu.MenuLine.TheInside.{Inside}

abbrev pub entry_said : Inside → ConfiguredEntry
entry_said kept = record { name = string_bytes kept.name; context = kept.context; text = option_map string_bytes kept.text }

-- the message that is kept tells of the entry
abbrev pub TellsOfEntry : Inside → Type 0
TellsOfEntry kept = kept.line ≡ menu_line (entry_said kept)
