-- The grounds on which a SUP, a login, a password or an update is denied, in the order in which they are looked at (ADC 1.0, "SUP", "INF", "PAS").
use Rattle.std.specs.Prelude.{ℕ, ◌&&◌, ◌||◌, not, Bool, true, false, List, [], ◌∷◌, ◌++◌, chars, codes, Option, Some, None, is_some}
use Rattle.std.specs.List.{find}
use Rattle.std.specs.Option.{unwrap_or, option_map_or}
use Rattle.std.specs.Str.{bytes_eq}
use Rattle.adc_base32.specs.Spelled.{spelled_bytes}
use Rattle.adc_ids.specs.Nicks.{is_nick}
use Rattle.inf_fields.specs.Amounts.{is_bad_number}
use Rattle.inf_fields.specs.Cleaning.{any_address, clean, dotted_decimal}
use Rattle.inf_fields.specs.Field.{Field, value_of}
use Rattle.inf_fields.specs.FieldNames.{id_name, private_id_name, nick_name, address_name}
use Rattle.inf_fields.specs.Merging.{fits}
use Rattle.login_state.specs.declared.deny.Deny.{Deny}
use Rattle.login_state.specs.declared.deny.Deny.TheVariants as denials
use Rattle.login_state.specs.declared.deny.Severity.{Severity}
use Rattle.login_state.specs.declared.deny.Severity.TheVariants.{Fatal, Recoverable}
use Rattle.login_state.specs.declared.named_field.NamedField.{NamedField}
use Rattle.login_state.specs.declared.named_field.NamedField.TheVariants as fields
use Rattle.login_state.specs.NamedFields.{checked_fields, name_of}
use Rattle.login_state.specs.Mentions.{base, tigr}
use Rattle.login_state.specs.Support.{has_feature}
use Rattle.operator_acts.specs.Bans.{left_of_bans}
use Rattle.operator_acts.specs.declared.left.Left.{Left}
use Rattle.operator_acts.specs.declared.left.Left.TheVariants as lefts
use Rattle.user_table.specs.Listed.{Listed}
use Rattle.user_table.specs.Tables.{has_key, has_cid}
use Rattle.hub_rules.specs.Identities.{value_or_empty, meaning, nick_in, key_in}
use Rattle.hub_rules.specs.Views.{HubView, SenderView, is_account, is_here, another_has_key}

-- the first that holds decides
abbrev pub first_ground : List (Bool × Deny) → Option Deny
first_ground [] = None
first_ground ((true, deny) ∷ more) = Some deny
first_ground ((false, deny) ∷ more) = first_ground more

-- ---- SUP

-- by the features that are left
abbrev pub sup_grounds : List (List ℕ) → List (Bool × Deny)
sup_grounds features = (not (has_feature base features), denials.NoBase) ∷ (not (has_feature tigr features), denials.NoHash) ∷ []

-- ---- what is looked for in words

abbrev pub is_empty : List ℕ → Bool
is_empty [] = true
is_empty (b ∷ more) = false

abbrev pub differs : List ℕ → List ℕ → Bool
differs value other = not (bytes_eq value other)

-- its value is none of its kind: a number
abbrev pub is_bad : List Field → NamedField → Bool
is_bad u field = is_bad_number (value_or_empty (name_of field) u)

-- the first of the checked fields with such a value
abbrev pub value_ground : Severity → List Field → Bool × Deny
value_ground severity u = (is_some (find (is_bad u) checked_fields), denials.BadField severity (unwrap_or (find (is_bad u) checked_fields) fields.Id))

-- an address that is neither left to the hub nor the one that it sees
abbrev pub is_wrong_address : List ℕ → List ℕ → Bool
is_wrong_address peer address = not (is_empty address || bytes_eq address any_address || bytes_eq address (dotted_decimal peer))

-- a nick that is given must be one
abbrev pub is_bad_nick : Option (List ℕ) → Bool
is_bad_nick nick = option_map_or (λ (word : List ℕ). not (is_nick (chars (meaning word)))) nick false

-- ---- entering

-- a ban that lasts still
abbrev pub ban_ground : Left → Bool × Deny
ban_ground lefts.Free = (false, denials.BannedEver)
ban_ground lefts.Ever = (true, denials.BannedEver)
ban_ground (lefts.For seconds) = (true, denials.BannedFor seconds)

-- of a user who is to enter: what may have changed since its login, once its password is right
unfoldable pub entry_grounds : HubView → ℕ → Listed → List (Bool × Deny)
entry_grounds hub now user =
    ban_ground (left_of_bans hub.bans user.cid now)
    ∷ (is_here (has_key user.key) hub, denials.NickTaken Fatal)
    ∷ (is_here (has_cid user.cid) hub, denials.CidTaken)
    ∷ []

abbrev pub is_digest : List ℕ → Option (List ℕ) → Bool
is_digest expected digest = option_map_or (λ (d : List ℕ). bytes_eq d expected) digest false

-- of a password: the digest that it gives
abbrev pub password_grounds : HubView → SenderView → ℕ → Option (List ℕ) → Listed → List (Bool × Deny)
password_grounds hub own now digest user = (not (is_digest own.expected digest), denials.Password) ∷ entry_grounds hub now user

-- of a login: what is missing, and an identifier that is none
abbrev pub identifier_grounds : List Field → List (Bool × Deny)
identifier_grounds u =
    (is_empty (value_or_empty id_name u), denials.Missing fields.Id)
    ∷ (is_empty (value_or_empty private_id_name u), denials.Missing fields.PrivateId)
    ∷ (is_empty (value_or_empty nick_name u), denials.Missing fields.Nick)
    ∷ (not (is_some (spelled_bytes 24 (value_or_empty id_name u))), denials.BadField Fatal fields.Id)
    ∷ []

-- of a login with an identifier: the digest of the private one, what the words say, the user that they make
abbrev pub entrant_grounds : HubView → SenderView → ℕ → Option (List ℕ) → List Field → Listed → List (Bool × Deny)
entrant_grounds hub own now digest u user =
    (not (is_some digest), denials.BadField Fatal fields.PrivateId)
    ∷ value_ground Fatal u
    ∷ (not (is_digest user.cid digest), denials.BadPid)
    ∷ (not (is_nick (chars (nick_in u))), denials.BadNick Fatal)
    ∷ ban_ground (left_of_bans hub.bans user.cid now)
    ∷ (is_wrong_address own.sender.peer (value_or_empty address_name u), denials.Address Fatal own.sender.peer)
    ∷ (hub.setup.plain.registered_only && not (is_account hub user.key), denials.Registered)
    ∷ (is_here (has_key user.key) hub, denials.NickTaken Fatal)
    ∷ (is_here (has_cid user.cid) hub, denials.CidTaken)
    ∷ []

unfoldable pub login_grounds : HubView → SenderView → ℕ → Option (List ℕ) → List Field → Listed → List (Bool × Deny)
login_grounds hub own now digest u user = identifier_grounds u ++ entrant_grounds hub own now digest u user

-- ---- updates

-- nobody takes the nick of an account, or leaves it
abbrev pub touches_account : HubView → List ℕ → List ℕ → Bool
touches_account hub before afterwards = differs afterwards before && (is_account hub before || is_account hub afterwards)

-- of an update by a user who is present: what the words say, and the user that they make
unfoldable pub update_grounds : HubView → SenderView → List Field → Listed → List (Bool × Deny)
update_grounds hub own u user =
    (differs (unwrap_or (value_of id_name u) (value_or_empty id_name own.fields)) (value_or_empty id_name own.fields), denials.BadField Recoverable fields.Id)
    ∷ value_ground Recoverable u
    ∷ (is_bad_nick (value_of nick_name u), denials.BadNick Recoverable)
    ∷ (touches_account hub (key_in own.fields) user.key, denials.Access (codes "BINF"))
    ∷ (is_wrong_address own.sender.peer (value_or_empty address_name u), denials.Address Recoverable own.sender.peer)
    ∷ (not (fits own.fields (clean u own.sender.peer)), denials.Protocol)
    ∷ (another_has_key hub own.sender.sid user.key, denials.NickTaken Recoverable)
    ∷ []
