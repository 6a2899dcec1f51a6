-- A hub, its host and its callers, as contracts see them.
use Rattle.std.specs.Prelude.{◌≡◌, ℕ, ◌==◌, true, false, List, []}
use Rattle.one_history.specs.States.{Caller, Home, LockHostState as HostSeat, LockState, SeatState, caller_of, home_of}
use Rattle.hub_core.specs.declared.share.Touched.{Touched}
use Rattle.hub_rules.specs.declared.history.Entry.{Entry}
use Rattle.hub_rules.specs.Configured.{Configured}
use Rattle.hub_shared.specs.declared.hub_key.HubKey.{HubKey}
use Rattle.hub_shared.specs.Connections.{challenge_in, has_stayed}

-- a hub: which one it is, its setup, and the value of its hash
pub record HubState (H : Type 0) : Type 0 where
  pub home : Home (HubKey H)
  pub setup : Configured
  pub hash : H

-- the host of a hub: how many visitors it has admitted
pub record HostState (H : Type 0) : Type 0 where
  pub home : Home (HubKey H)
  pub admitted : ℕ

-- a caller without a connection, and whom its last call concerned
pub record VisitorState (H : Type 0) : Type 0 where
  pub home : Home (HubKey H)
  pub caller : Caller Entry
  pub touched : Touched

-- a caller with its connection, the challenge that came with the join, and whom the caller's last call concerned
pub record PassState (H : Type 0) : Type 0 where
  pub home : Home (HubKey H)
  pub caller : Caller Entry
  pub connection : ℕ
  pub challenge : List ℕ
  pub touched : Touched

-- a caller that has seen nothing and made nothing
abbrev pub new_caller : ℕ → Caller Entry
new_caller number = record { number = number; seen = []; mine = [] }

module _ {H : Type 0} where
  -- ---- how they show

  abbrev pub hub_of : LockState (HubKey H) → HubState H
  hub_of lock = record { home = home_of lock; setup = lock.about.setup.value; hash = lock.about.hash.value }

  abbrev pub visitor_of : SeatState Entry (HubKey H) → Touched → VisitorState H
  visitor_of seat touched = record { home = seat.home; caller = caller_of seat; touched = touched }

  abbrev pub pass_of : SeatState Entry (HubKey H) → ℕ → Touched → PassState H
  pass_of seat connection touched =
      record { home = seat.home; caller = caller_of seat; connection = connection; challenge = challenge_in connection seat.mine; touched = touched }

  abbrev pub host_of : HostSeat Entry (HubKey H) → HostState H
  host_of seat = record { home = seat.home; admitted = seat.admitted }

  -- the seat of a visitor
  abbrev pub seat_of : VisitorState H → SeatState Entry (HubKey H)
  seat_of visitor = record { home = visitor.home; number = visitor.caller.number; seen = visitor.caller.seen; mine = visitor.caller.mine; holds = false }

  -- ---- what always holds of them

  -- a visitor has quit each connection that it joined
  pub record IsVisitor (seat : SeatState Entry (HubKey H)) : Type 0 where
    pub idle : seat.holds ≡ false
    pub quits : (d : ℕ) → has_stayed d seat.mine ≡ false

  -- a pass has quit each connection that it joined but its own
  pub record IsPass (seat : SeatState Entry (HubKey H)) (connection : ℕ) : Type 0 where
    pub idle : seat.holds ≡ false
    pub own : has_stayed connection seat.mine ≡ true
    pub others : (d : ℕ) → (d == connection) ≡ false → has_stayed d seat.mine ≡ false

  -- the host has nobody's seat
  abbrev pub IsAlone : HostSeat Entry (HubKey H) → Type 0
  IsAlone seat = seat.gathered ≡ []
