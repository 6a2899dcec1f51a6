-- What the lines of a hub say to a client that waits for an answer.
use Rattle.std.specs.Prelude.{◌≡◌, ℕ, ◌⊎◌, ◌&&◌, Bool, bytes_eq, true, false, List, [], codes, drop, get_or, Option, Some, None}
use Rattle.std.specs.Option.{option_and_then}
use Rattle.adc_base32.specs.Sids.{sid_at}
use Rattle.adc_base32.specs.Spelled.{spelled_bytes}
use Rattle.adc_line.specs.Lines.{Reading}
use Rattle.adc_line.specs.declared.header.Kind.{Kind}
use Rattle.adc_line.specs.declared.header.Kind.TheVariants as kinds
use Rattle.hub_client.specs.declared.client.LoginStep.{LoginStep}
use Rattle.hub_client.specs.declared.client.LoginStep.TheVariants.{Inside, Challenged}
use Rattle.hub_client.specs.declared.fault.ClientFault.{ClientFault}
use Rattle.hub_client.specs.declared.fault.ClientFault.TheVariants as faults
use Rattle.hub_client.specs.declared.status.Status.{Status}
use Rattle.hub_client.specs.Fields.{IsField}
use Rattle.hub_client.specs.Statuses.{IsNoStatus, IsStatus, is_well}

-- a message that only a hub sends, with this command
abbrev pub IsHubInfo : Reading → List ℕ → Type 0
IsHubInfo line command = (line.kind ≡ kinds.Info) × (line.command ≡ command)

abbrev pub is_info_kind : Kind → Bool
is_info_kind kinds.Info = true
is_info_kind kind = false

abbrev pub is_broadcast_kind : Kind → Bool
is_broadcast_kind kinds.Broadcast = true
is_broadcast_kind kind = false

-- the same of the commands QUI and INF as tests
abbrev pub is_quit_line : Reading → Bool
is_quit_line line = is_info_kind line.kind && bytes_eq line.command (codes "QUI")

abbrev pub is_user_line : Reading → Bool
is_user_line line = is_broadcast_kind line.kind && bytes_eq line.command (codes "INF")

-- the hub tells of a user
abbrev pub IsUserLine : Reading → Type 0
IsUserLine line = (line.kind ≡ kinds.Broadcast) × (line.command ≡ codes "INF")

-- the hub tells of the user of this session identifier
abbrev pub TellsOf : Reading → ℕ → Type 0
TellsOf line sid = IsUserLine line × (line.from ≡ Some sid)

-- a status of a success, and of a failure
abbrev pub IsSuccess : Reading → Status → Type 0
IsSuccess line status = IsHubInfo line (codes "STA") × IsStatus line.params status × (is_well status.number ≡ true)

abbrev pub IsFailure : Reading → Status → Type 0
IsFailure line status = IsHubInfo line (codes "STA") × IsStatus line.params status × (is_well status.number ≡ false)

-- how far the client of this session identifier came: the hub tells of it as a user, or asks for its password with a challenge
abbrev pub Enters : Reading → ℕ → LoginStep → Type 0
Enters line sid Inside = TellsOf line sid
Enters line sid (Challenged challenge) = IsHubInfo line (codes "GPA") × (spelled_bytes 24 (get_or line.params 0 []) ≡ Some challenge)

-- the line says how far the client came, or nothing of that
abbrev pub IsLoginStep : Reading → ℕ → Option LoginStep → Type 0
IsLoginStep line sid (Some entry) = Enters line sid entry
IsLoginStep line sid None =
    (TellsOf line sid → ⊥) × (IsHubInfo line (codes "GPA") → ⊥)
    × (IsHubInfo line (codes "STA") → (status : Status) × IsSuccess line status)

-- the line is a status of a success, or no status
abbrev pub IsAnswer : Reading → Option Status → Type 0
IsAnswer line (Some status) = IsSuccess line status
IsAnswer line None = IsHubInfo line (codes "STA") → ⊥

-- the first parameter spells no challenge
abbrev pub IsNoChallenge : Reading → Type 0
IsNoChallenge line = spelled_bytes 24 (get_or line.params 0 []) ≡ None

-- memory ran out, or the line is a status of a failure, or a status or a request for the password in name alone
abbrev pub IsLoginRefusal : Reading → ClientFault → Type 0
IsLoginRefusal line faults.Memory = Unit {0}
IsLoginRefusal line (faults.Refused status) = IsFailure line status
IsLoginRefusal line faults.NotAdc = (IsHubInfo line (codes "STA") × IsNoStatus line.params) ⊎ (IsHubInfo line (codes "GPA") × IsNoChallenge line)
IsLoginRefusal line faults.Unsayable = ⊥
IsLoginRefusal line faults.TimedOut = ⊥
IsLoginRefusal line faults.Unanswered = ⊥
IsLoginRefusal line faults.Closed = ⊥
IsLoginRefusal line faults.Broken = ⊥

-- the session identifier of the user who sent another away, if a departure names it
abbrev pub IsSender : Reading → Option ℕ → Type 0
IsSender line sid = (word : Option (List ℕ)) × IsField (codes "ID") (drop 1 line.params) word × (sid ≡ option_and_then sid_at word)

-- the user of this session identifier is gone, sent away by an operator
abbrev pub IsSentAway : Reading → ℕ → ℕ → Type 0
IsSentAway line sid operator = (sid_at (get_or line.params 0 []) ≡ Some sid) × IsSender line (Some operator)

-- the line is a status, and its refusal is this
abbrev pub IsBadStatus : Reading → ClientFault → Type 0
IsBadStatus line fault = IsHubInfo line (codes "STA") × IsLoginRefusal line fault
