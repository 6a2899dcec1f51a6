-- A line as it is prepared for the hub: with the digests that its rules look at.
use Rattle.std.specs.Prelude.{ℕ, ◌&&◌, Bool, true, false, List, ◌++◌, codes, Option, None, Result, Ok, Err, if◌then◌else◌}
use Rattle.std.specs.Option.{option_map, option_and_then}
use Rattle.std.specs.Result.{result_ok}
use Rattle.std.specs.Str.{bytes_eq}
use Rattle.adc_base32.specs.Spelled.{spelled_bytes}
use Rattle.adc_line.specs.declared.fault.LineFault.{LineFault}
use Rattle.adc_line.specs.declared.header.Kind.{Kind}
use Rattle.adc_line.specs.declared.header.Kind.TheVariants as kinds
use Rattle.adc_line.specs.Lines as lines
use Rattle.inf_fields.specs.Field.{Field}
use Rattle.inf_fields.specs.FieldNames.{private_id_name}
use Rattle.inf_fields.specs.Updates as updates
use Rattle.hub_rules.specs.Accounts.{account_with}
use Rattle.hub_rules.specs.Configured.{ConfiguredAccount, Configured}
use Rattle.hub_rules.specs.Identities.{value_or_empty, key_in}
use Rattle.hub_rules.specs.Views.{PreparedLine}

abbrev pub is_broadcast : Kind → Bool
is_broadcast kinds.Broadcast = true
is_broadcast kind = false

-- what an INF for all says, where the bytes are one and its words make an update
abbrev pub update_of : Result lines.Reading LineFault → Option (List Field)
update_of (Err fault) = None
update_of (Ok line) =
    if is_broadcast line.kind && bytes_eq line.command (codes "INF") then result_ok (updates.reading line.params) else None

-- the digest of the private identifier, where it is one
abbrev pub owner_digest : (List ℕ → List ℕ) → Option (List Field) → Option (List ℕ)
owner_digest hash said = option_map hash (option_and_then (λ (u : List Field). spelled_bytes 24 (value_or_empty private_id_name u)) said)

abbrev pub password_of : (List ℕ → List ℕ) → List ℕ → Option ConfiguredAccount → Option (List ℕ)
password_of hash challenge account = option_map (λ (a : ConfiguredAccount). hash (a.password ++ challenge)) account

-- the digest of the password and the challenge, where the nick is an account's
abbrev pub password_digest : Configured → (List ℕ → List ℕ) → List ℕ → Option (List Field) → Option (List ℕ)
password_digest setup hash challenge said =
    password_of hash challenge (option_and_then (λ (u : List Field). account_with (key_in u) setup.accounts) said)

-- a line as it comes to the hub
unfoldable pub prepared_line : Configured → (List ℕ → List ℕ) → List ℕ → List ℕ → PreparedLine
prepared_line setup hash challenge bytes = record {
  bytes = bytes;
  owner = owner_digest hash (update_of (lines.reading bytes));
  password = password_digest setup hash challenge (update_of (lines.reading bytes));
}
