-- The questions of the checks of a login, of an update and of a password, by what the rules look at (ADC 1.0, "INF", "PAS").
use Rattle.std.specs.Prelude.{ℕ, ◌==◌, ◌&&◌, ◌||◌, not, Bool, true, false, List, [], ◌∷◌, map, length, chars, Option, Some, None, is_some, if◌then◌else◌}
use Rattle.std.specs.Str.{bytes_eq}
use Rattle.adc_base32.specs.Spelled.{spelled_bytes}
use Rattle.adc_ids.specs.Nicks.{is_nick}
use Rattle.inf_fields.specs.Cleaning.{any_address, clean, dotted_decimal}
use Rattle.inf_fields.specs.Field.{Field, value_of}
use Rattle.inf_fields.specs.FieldNames.{id_name, private_id_name, nick_name, address_name}
use Rattle.inf_fields.specs.Merging.{fits}
use Rattle.login_state.specs.declared.asks.EntryAsk.{EntryAsk}
use Rattle.login_state.specs.declared.asks.InfAsk.{InfAsk}
use Rattle.login_state.specs.declared.asks.UpdateAsk.{UpdateAsk}
use Rattle.login_state.specs.declared.checks.Check.{Check}
use Rattle.login_state.specs.declared.checks.Check.TheVariants as checks
use Rattle.login_state.specs.declared.deny.Deny.{Deny}
use Rattle.login_state.specs.declared.findings.Account.{Account}
use Rattle.login_state.specs.declared.findings.Account.TheVariants.{Untouched, Touched}
use Rattle.login_state.specs.declared.findings.Address.{Address}
use Rattle.login_state.specs.declared.findings.Address.TheVariants.{Right, Wrong}
use Rattle.login_state.specs.declared.findings.Admission.{Admission}
use Rattle.login_state.specs.declared.findings.Admission.TheVariants.{Admitted, RegisteredOnly}
use Rattle.login_state.specs.declared.findings.Ban.{Ban}
use Rattle.login_state.specs.declared.findings.Ban.TheVariants as found_bans
use Rattle.login_state.specs.declared.findings.Claim.{Claim}
use Rattle.login_state.specs.declared.findings.Claim.TheVariants as claims
use Rattle.login_state.specs.declared.findings.Identity.{Identity}
use Rattle.login_state.specs.declared.findings.Identity.TheVariants.{Own, Foreign}
use Rattle.login_state.specs.declared.findings.Required.{Required}
use Rattle.login_state.specs.declared.findings.Required.TheVariants as required
use Rattle.login_state.specs.declared.findings.Size.TheVariants.{Fits, TooMany}
use Rattle.login_state.specs.declared.findings.Validity.{Validity}
use Rattle.login_state.specs.declared.findings.Validity.TheVariants.{Bad, Good}
use Rattle.login_state.specs.declared.named_field.NamedField.{NamedField}
use Rattle.login_state.specs.NamedFields.{checked_fields}
use Rattle.operator_acts.specs.Bans.{left_of_bans}
use Rattle.operator_acts.specs.declared.left.Left.{Left}
use Rattle.operator_acts.specs.declared.left.Left.TheVariants as lefts
use Rattle.hub_rules.specs.Grounds.{is_bad, is_digest}
use Rattle.hub_rules.specs.Identities.{value_or_empty, meaning, nick_in, key_in}
use Rattle.hub_rules.specs.Views as sights
use Rattle.hub_rules.specs.Views.{HubView, is_account, is_here, another_has_key}
use Rattle.user_table.specs.Listed.{Listed}
use Rattle.user_table.specs.Tables.{has_key, has_cid}

-- the answer of a check as a denial
abbrev pub denial_of : Check → Option Deny
denial_of checks.Go = None
denial_of (checks.Deny deny) = Some deny

abbrev pub good_if : Bool → Validity
good_if true = Good
good_if false = Bad

abbrev pub taken_if : Bool → Claim
taken_if true = claims.Taken
taken_if false = claims.Free

-- a field that a login needs: missing or empty, or else valid or not
abbrev pub required_found : Bool → List ℕ → Required
required_found valid [] = required.Missing
required_found true (b ∷ more) = required.Good
required_found false (b ∷ more) = required.Bad

abbrev pub values_found : List Field → List Validity
values_found u = map (λ (field : NamedField). good_if (not (is_bad u field))) checked_fields

-- an address: none, one that the hub is to fill in, or the one that it sees
abbrev pub address_found : List ℕ → List ℕ → Address
address_found peer address =
    if length address == 0 || bytes_eq address any_address || bytes_eq address (dotted_decimal peer) then Right else Wrong peer

abbrev pub ban_found : Left → Ban
ban_found lefts.Free = found_bans.Free
ban_found (lefts.For seconds) = found_bans.For seconds
ban_found lefts.Ever = found_bans.Ever

abbrev pub admission_found : HubView → List ℕ → Admission
admission_found hub key = if hub.setup.plain.registered_only && not (is_account hub key) then RegisteredOnly else Admitted

-- of a user who is to enter: what may have changed since its login, once its password is right
unfoldable pub entry_ask : HubView → ℕ → Listed → EntryAsk
entry_ask hub now user = record {
  ban = ban_found (left_of_bans hub.bans user.cid now);
  nick_claim = taken_if (is_here (has_key user.key) hub);
  cid_claim = taken_if (is_here (has_cid user.cid) hub);
}

-- of a login: the hub, the moment, the peer, the digest of the private identifier, what the words say, the user that they make
unfoldable pub login_ask : HubView → ℕ → List ℕ → Option (List ℕ) → List Field → Listed → InfAsk
login_ask hub now peer digest u user = record {
  words = Good;
  id = required_found (is_some (spelled_bytes 24 (value_or_empty id_name u))) (value_or_empty id_name u);
  pid = required_found (is_some digest) (value_or_empty private_id_name u);
  nick = required_found (is_nick (chars (nick_in u))) (value_or_empty nick_name u);
  values = values_found u;
  identity = if is_digest user.cid digest then Own else Foreign;
  address = address_found peer (value_or_empty address_name u);
  admission = admission_found hub user.key;
  entry = entry_ask hub now user;
}

-- an identifier that is given must be the user's own
abbrev pub own_if_given : List Field → Option (List ℕ) → Identity
own_if_given fields None = Own
own_if_given fields (Some id) = if bytes_eq id (value_or_empty id_name fields) then Own else Foreign

-- a nick that is given must be one
abbrev pub nick_found : Option (List ℕ) → Validity
nick_found None = Good
nick_found (Some nick) = good_if (is_nick (chars (meaning nick)))

-- nobody takes the nick of an account, or leaves it
abbrev pub account_found : HubView → List ℕ → List ℕ → Account
account_found hub before afterwards =
    if not (bytes_eq afterwards before) && (is_account hub before || is_account hub afterwards) then Touched else Untouched

-- of an update by a user who is present: what the words say, and the user that they make
unfoldable pub update_ask : HubView → sights.SenderView → List Field → Listed → UpdateAsk
update_ask hub own u user = record {
  words = Good;
  identity = own_if_given own.fields (value_of id_name u);
  values = values_found u;
  nick = nick_found (value_of nick_name u);
  account = account_found hub (key_in own.fields) user.key;
  address = address_found own.sender.peer (value_or_empty address_name u);
  size = if fits own.fields (clean u own.sender.peer) then Fits else TooMany;
  nick_claim = taken_if (another_has_key hub own.sender.sid user.key);
}
