-- Each check by itself: what is denied for what was found (ADC 1.0, "INF", "PAS", "SUP").
use Rattle.std.specs.Prelude.{ℕ, Bool, true, false, List, [], ◌∷◌, codes, Option, Some, None}
use Rattle.std.specs.Option.{option_map}
use Rattle.std.specs.Str.{bytes_eq}
use Rattle.login_state.specs.declared.named_field.NamedField.{NamedField}
use Rattle.login_state.specs.declared.named_field.NamedField.TheVariants as fields
use Rattle.login_state.specs.declared.deny.Deny.{Deny}
use Rattle.login_state.specs.declared.deny.Deny.TheVariants as denials
use Rattle.login_state.specs.declared.deny.Severity.{Severity}
use Rattle.login_state.specs.declared.deny.Severity.TheVariants.{Recoverable, Fatal}
use Rattle.login_state.specs.declared.findings.Account.{Account}
use Rattle.login_state.specs.declared.findings.Account.TheVariants.{Untouched, Touched}
use Rattle.login_state.specs.declared.findings.Address.{Address}
use Rattle.login_state.specs.declared.findings.Address.TheVariants.{Right, Wrong}
use Rattle.login_state.specs.declared.findings.Admission.{Admission}
use Rattle.login_state.specs.declared.findings.Admission.TheVariants.{Admitted, RegisteredOnly}
use Rattle.login_state.specs.declared.findings.Ban.{Ban}
use Rattle.login_state.specs.declared.findings.Ban.TheVariants as bans
use Rattle.login_state.specs.declared.findings.Claim.{Claim}
use Rattle.login_state.specs.declared.findings.Claim.TheVariants as claims
use Rattle.login_state.specs.declared.findings.Identity.{Identity}
use Rattle.login_state.specs.declared.findings.Identity.TheVariants.{Own, Foreign}
use Rattle.login_state.specs.declared.findings.Required.{Required}
use Rattle.login_state.specs.declared.findings.Required.TheVariants as required
use Rattle.login_state.specs.declared.findings.Size.{Size}
use Rattle.login_state.specs.declared.findings.Size.TheVariants.{Fits, TooMany}
use Rattle.login_state.specs.declared.findings.Validity.{Validity}
use Rattle.login_state.specs.declared.findings.Validity.TheVariants.{Bad, Good}
use Rattle.login_state.specs.NamedFields.{checked_fields}
use Rattle.login_state.specs.Support.{has_feature}

abbrev pub wrong_words : Validity → Option Deny
wrong_words Bad = Some denials.Protocol
wrong_words Good = None

abbrev pub missing : Required → NamedField → Option Deny
missing required.Missing field = Some (denials.Missing field)
missing required.Bad field = None
missing required.Good field = None

abbrev pub bad_required : Required → NamedField → Option Deny
bad_required required.Missing field = None
bad_required required.Bad field = Some (denials.BadField Fatal field)
bad_required required.Good field = None

-- the first of these fields whose value is not valid
abbrev pub first_bad : List NamedField → List Validity → Option NamedField
first_bad (field ∷ fields) (Bad ∷ values) = Some field
first_bad (field ∷ fields) (Good ∷ values) = first_bad fields values
first_bad (field ∷ fields) [] = None
first_bad [] values = None

abbrev pub bad_value : Severity → List Validity → Option Deny
bad_value severity values = option_map (denials.BadField severity) (first_bad checked_fields values)

-- the identifier of a login is not the hash of the private one
abbrev pub foreign_pid : Identity → Option Deny
foreign_pid Own = None
foreign_pid Foreign = Some denials.BadPid

-- the identifier of an update is not the user's own
abbrev pub foreign_id : Identity → Option Deny
foreign_id Own = None
foreign_id Foreign = Some (denials.BadField Recoverable fields.Id)

abbrev pub bad_nick_of_login : Required → Option Deny
bad_nick_of_login required.Missing = None
bad_nick_of_login required.Bad = Some (denials.BadNick Fatal)
bad_nick_of_login required.Good = None

abbrev pub bad_nick : Validity → Option Deny
bad_nick Bad = Some (denials.BadNick Recoverable)
bad_nick Good = None

abbrev pub ban_denial : Ban → Option Deny
ban_denial bans.Free = None
ban_denial bans.Ever = Some denials.BannedEver
ban_denial (bans.For seconds) = Some (denials.BannedFor seconds)

abbrev pub wrong_address : Severity → Address → Option Deny
wrong_address severity Right = None
wrong_address severity (Wrong peer) = Some (denials.Address severity peer)

abbrev pub registration_denial : Admission → Option Deny
registration_denial Admitted = None
registration_denial RegisteredOnly = Some denials.Registered

abbrev pub account_touched : Account → Option Deny
account_touched Untouched = None
account_touched Touched = Some (denials.Access (codes "BINF"))

abbrev pub too_many_fields : Size → Option Deny
too_many_fields Fits = None
too_many_fields TooMany = Some denials.Protocol

abbrev pub nick_taken : Severity → Claim → Option Deny
nick_taken severity claims.Free = None
nick_taken severity claims.Taken = Some (denials.NickTaken severity)

abbrev pub cid_taken : Claim → Option Deny
cid_taken claims.Free = None
cid_taken claims.Taken = Some denials.CidTaken

abbrev pub unless : Bool → Deny → Option Deny
unless true deny = None
unless false deny = Some deny

abbrev pub unless_supported : List (List ℕ) → List ℕ → Deny → Option Deny
unless_supported features feature deny = unless (has_feature feature features) deny

-- no digest, or another than the expected one
abbrev pub wrong_password : List ℕ → Option (List ℕ) → Option Deny
wrong_password expected None = Some denials.Password
wrong_password expected (Some given) = unless (bytes_eq given expected) denials.Password
