-- The status messages by which lines are refused (ADC 1.0, "STA").
use Rattle.std.specs.Prelude.{ℕ, ◌==◌, Bool, slice_index, List, [], ◌∷◌, ◌++◌, codes}
use Rattle.std.specs.Fmt.{decimal}
use Rattle.login_state.specs.declared.deny.Deny.{Deny}
use Rattle.login_state.specs.declared.deny.Deny.TheVariants.{Protocol, WrongSid, BadStage, NoBase, NoHash, Missing, BadField, BadPid, BadNick, BannedEver, BannedFor, Address, Registered, NickTaken, CidTaken, Password, Access, SearchSoon, BadCommand, NoUser, NoBan, BansFull}
use Rattle.login_state.specs.declared.deny.FlagValue.{FlagValue}
use Rattle.login_state.specs.declared.deny.FlagValue.TheVariants as values
use Rattle.login_state.specs.declared.deny.Severity.{Severity}
use Rattle.login_state.specs.declared.deny.Severity.TheVariants.{Recoverable, Fatal}
use Rattle.login_state.specs.NamedFields.{name_of}
use Rattle.inf_fields.specs.Cleaning.{dotted_decimal}

-- the message, without its line feed
unfoldable pub denial_text : Deny → List ℕ
denial_text Protocol = codes "ISTA 140 Protocol\\serror"
denial_text WrongSid = codes "ISTA 240 Wrong\\sSID"
denial_text (BadStage word) = codes "ISTA 144 Invalid\\sstate FC" ++ word
denial_text NoBase = codes "ISTA 245 Feature\\smissing FCBASE"
denial_text NoHash = codes "ISTA 247 No\\scommon\\shash"
denial_text (Missing field) = codes "ISTA 243 INF\\sfield\\smissing FM" ++ name_of field
denial_text (BadField Recoverable field) = codes "ISTA 143 INF\\sfield\\sbad FB" ++ name_of field
denial_text (BadField Fatal field) = codes "ISTA 243 INF\\sfield\\sbad FB" ++ name_of field
denial_text BadPid = codes "ISTA 227 Invalid\\sPID"
denial_text (BadNick Recoverable) = codes "ISTA 121 Invalid\\snick"
denial_text (BadNick Fatal) = codes "ISTA 221 Invalid\\snick"
denial_text BannedEver = codes "ISTA 231 Banned"
denial_text (BannedFor seconds) = codes "ISTA 232 Banned TL" ++ decimal seconds
denial_text (Address Recoverable peer) = codes "ISTA 146 Wrong\\saddress I4" ++ dotted_decimal peer
denial_text (Address Fatal peer) = codes "ISTA 246 Wrong\\saddress I4" ++ dotted_decimal peer
denial_text Registered = codes "ISTA 226 Registered\\susers\\sonly"
denial_text (NickTaken Recoverable) = codes "ISTA 122 Nick\\staken"
denial_text (NickTaken Fatal) = codes "ISTA 222 Nick\\staken"
denial_text CidTaken = codes "ISTA 224 CID\\staken"
denial_text Password = codes "ISTA 223 Invalid\\spassword"
denial_text (Access word) = codes "ISTA 125 Access\\sdenied FC" ++ word
denial_text SearchSoon = codes "ISTA 100 Search\\stoo\\ssoon"
denial_text BadCommand = codes "ISTA 100 Bad\\scommand"
denial_text NoUser = codes "ISTA 100 No\\ssuch\\suser"
denial_text NoBan = codes "ISTA 100 No\\ssuch\\sban"
denial_text BansFull = codes "ISTA 100 Ban\\slist\\sfull"

-- the message, with its line feed
abbrev pub denial_line : Deny → List ℕ
denial_line deny = denial_text deny ++ 10 ∷ []

-- whether a denial shuts the connection out: the first digit of its number, behind `ISTA `, is a 2
abbrev pub is_fatal : Deny → Bool
is_fatal deny = slice_index (denial_text deny) 5 == 50

-- what a flag says
abbrev pub value_bytes : FlagValue → List ℕ
value_bytes values.Nothing = []
value_bytes (values.Word word) = word
value_bytes (values.Name name) = name
value_bytes (values.Seconds seconds) = decimal seconds
value_bytes (values.Address address) = dotted_decimal address
