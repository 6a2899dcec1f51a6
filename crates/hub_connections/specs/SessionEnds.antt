-- The end of a session that serves a connection of a named hub.
use Rattle.std.specs.Prelude.{◌≡◌, Bool, true, false, Option, None, Some, option_map}
use Rattle.std.specs.declared.net.socket_addr.SocketAddrV4.{SocketAddrV4}
use Rattle.adc_sessions.specs.declared.ending.End.{End}
use Rattle.adc_sessions.specs.declared.ending.End.TheVariants as ends
use Rattle.adc_sessions.specs.declared.session.Session.{Session}
use Rattle.adc_sessions.specs.Events.{StreamCall, PortCall}
use Rattle.adc_sessions.specs.Outcome.{SessionGives}
use Rattle.hub_connections.specs.NamedHub.{home_in}
use Rattle.hub_shared.specs.Callers.{HubState, VisitorState}
use Rattle.hub_warnings.specs.Logged.{said_line}
use Rattle.hub_warnings.specs.declared.cause.Cause.{Cause}
use Rattle.hub_warnings.specs.declared.cause.Cause.TheVariants as causes
use Rattle.hub_warnings.specs.declared.lines.Warning.{Warning}
use Rattle.hub_warnings.specs.declared.said.Said.{Said}

-- Whatever this session ends with, the visitor who is left is of the named hub, all that it has called are visits, and what is owed to the
-- connection at that end holds.
abbrev pub EndsVisit : {S P B H Rest : Type 0} → Session S P B → (S → StreamCall → S → Type 0) → (P → PortCall → P → Type 0) → (P → Rest → Type 0) → (Rest → VisitorState H)
    → Option (HubState H) → (VisitorState H → Type 0) → (End → S → Type 0) → Type 0
EndsVisit {S} {Rest} session reports calls leaves visitor named visited owed =
    (end : End) (stream : S) (left : Rest) → SessionGives reports calls leaves session (end, stream, left)
    → (home_in named ≡ Some (visitor left).home) × visited (visitor left) × ∥ owed end stream ∥₁

-- the socket of a session that ends this way lingers: the hub has told its client a last line
abbrev pub lingers_at : End → Bool
lingers_at ends.Ended = true
lingers_at end = false

-- the cause by which a session's end is warned of: none where it ended as it should
abbrev pub cause_by : End → Option Cause
cause_by ends.Closed = None
cause_by ends.Ended = None
cause_by ends.ReadFailed = Some causes.ReadFailed
cause_by ends.WriteFailed = Some causes.WriteFailed
cause_by ends.TooLong = Some causes.TooLong
cause_by ends.Memory = Some causes.OutOfMemory

-- this was warned of: the address from which a connection comes, and the cause
abbrev pub IsWarningOf : SocketAddrV4 → Cause → Said Warning → Type 0
IsWarningOf peer cause said = ((said_line said).peer ≡ Some peer) × ((said_line said).cause ≡ cause)

-- this was warned of a session's end: the address from which its connection comes, and the cause; nothing where it ended as it should
abbrev pub IsWarnedOf : End → SocketAddrV4 → Option (Said Warning) → Type 0
IsWarnedOf end peer said =
    (option_map (λ (it : Said Warning). (said_line it).peer) said ≡ option_map (λ (cause : Cause). Some peer) (cause_by end))
    × (option_map (λ (it : Said Warning). (said_line it).cause) said ≡ cause_by end)
