-- A line as it is kept once it was prepared.
use Rattle.std.specs.Prelude.{◌≡◌, ℕ, List, Ok, Err, chars}
use Rattle.std.specs.String.{string_bytes}
use Rattle.adc_base32.specs.Spelled.{spelled_bytes}
use Rattle.adc_ids.specs.Nicks.{is_nick}
use Rattle.adc_line.specs.declared.fault.LineFault.{LineFault}
use Rattle.adc_line.specs.Lines.{reading}
use Rattle.inf_fields.specs.FieldNames.{id_name}
use Rattle.hub_rules.specs.Identities.{key_in, nick_in, value_or_empty}
use Rattle.hub_rules.specs.Prepared.{update_of}
use Rattle.hub_rules.specs.Views.{PreparedLine}
use Rattle.hub_setup.specs.declared.preparation.Content.{Content}
use Rattle.hub_setup.specs.declared.preparation.Content.TheVariants.{Message, Other}
use Rattle.hub_setup.specs.declared.inf.Inf.TheInside as inf
use Rattle.hub_setup.specs.declared.preparation.Prepared.TheInside.{Inside}

-- the bytes as they came
abbrev pub bytes_of : Content → List ℕ
bytes_of (Message line) = line.text
bytes_of (Other bytes) = bytes.items

-- what is kept is what the bytes say
abbrev pub IsContent : Content → Type 0
IsContent (Message line) = reading line.text ≡ Ok line
IsContent (Other bytes) = (fault : LineFault) × (reading bytes.items ≡ Err fault)

abbrev pub line_of : Inside → PreparedLine
line_of kept = record { bytes = bytes_of kept.content; owner = kept.owner; password = kept.password }

-- and so is the update
abbrev pub IsPrepared : Inside → Type 0
IsPrepared kept = IsContent kept.content × (kept.inf ≡ update_of (reading (bytes_of kept.content)))

-- what was worked out of an update is what it says
pub record IsInf (kept : inf.Inside) : Type 0 where
  pub nick : string_bytes kept.nick ≡ nick_in kept.update
  pub key : string_bytes kept.key ≡ key_in kept.update
  pub is_nick : kept.is_nick ≡ is_nick (chars (nick_in kept.update))
  pub cid : kept.cid ≡ spelled_bytes 24 (value_or_empty id_name kept.update)
