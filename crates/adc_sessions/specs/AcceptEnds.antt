-- The count of accepted streams, and the reasons for which no more are accepted.
use Rattle.std.specs.Prelude.{◌≡◌, ◌+◌, ◌≤◌, ℕ, List, length, fold, flat_map, Option, Some, None}
use Rattle.adc_sessions.specs.declared.accept.Accept.{Accept}
use Rattle.adc_sessions.specs.declared.accept.AcceptEnd.{AcceptEnd}
use Rattle.adc_sessions.specs.declared.accept.AcceptEnd.TheVariants.{Stopped, AcceptFailed}
use Rattle.adc_sessions.specs.declared.incoming.Peer.{Peer}
use Rattle.adc_sessions.specs.Arrivals.{Arrival, Brings, who_came, streams, faults_by}

abbrev pub starter_of : {I T : Type 0} → Accept I T → T
starter_of accept = accept.starter

abbrev pub incoming_of : {I T : Type 0} → Accept I T → I
incoming_of accept = accept.incoming

-- how many more are to be accepted, where a number is set
abbrev pub left_of : {I T : Type 0} → Accept I T → Option ℕ
left_of accept = accept.left

-- how many faults there were since the last stream
abbrev pub faults_of : {I T : Type 0} → Accept I T → ℕ
faults_of accept = accept.faults

-- so many more are left where the number is set
abbrev pub LeavesAfter : Option ℕ → ℕ → Option ℕ → Type 0
LeavesAfter None count later = later ≡ None
LeavesAfter (Some left) count later = (now : ℕ) × (later ≡ Some now) × (now + count ≡ left)

-- at most so many calls of the source; the streams that came were started in their order, each with its peer, and are so many less to accept
abbrev pub AcceptsIn : {I T S : Type 0} → (I → Arrival S → I → Type 0) → (T → List (S × Peer) → T → Type 0) → ℕ → Accept I T → Accept I T → Type 0
AcceptsIn {I} {T} {S} brings starts most a b =
    (arrivals : List (Arrival S)) × (length arrivals ≤ most) × Brings brings a.incoming arrivals b.incoming × starts a.starter (flat_map who_came arrivals) b.starter
    × LeavesAfter a.left (streams arrivals) b.left × (b.faults ≡ fold faults_by a.faults arrivals)

-- all were accepted, or 64 faults came in a row
abbrev pub OverBy : {I T : Type 0} → AcceptEnd → Accept I T → Type 0
OverBy Stopped accept = accept.left ≡ Some 0
OverBy AcceptFailed accept = accept.faults ≡ 64

-- from this state on, this end is come to
abbrev pub AcceptGives : {I T S : Type 0} → (I → Arrival S → I → Type 0) → (T → List (S × Peer) → T → Type 0) → Accept I T → AcceptEnd → Type 0
AcceptGives {I} {T} {S} brings starts accept end = (most : ℕ) × (later : Accept I T) × AcceptsIn brings starts most accept later × OverBy end later
