-- The seats of the connections, before and after an effect.
use Rattle.std.specs.Prelude.{ℕ, ◌==◌, ◌&&◌, Bool, true, false, List, [], ◌∷◌, ◌++◌, Option, Some, None, if◌then◌else◌}
use Rattle.hub_core.specs.declared.seat.Phase.{Phase}
use Rattle.hub_core.specs.declared.seat.Phase.TheVariants as phases
use Rattle.hub_core.specs.declared.seat.Seat.{Seat}
use Rattle.hub_core.specs.Phases.{phase_after, phase_hears, phase_of, stage_in}
use Rattle.hub_rules.specs.declared.effect.Change.{Change}
use Rattle.hub_rules.specs.declared.effect.Effect.{Effect}
use Rattle.hub_rules.specs.declared.sender.SeatChange.{SeatChange}
use Rattle.hub_rules.specs.declared.sender.Sender.{Sender}
use Rattle.hub_rules.specs.Effects.{is_present}
use Rattle.hub_invariants.specs.Afterwards.{sender_after}
use Rattle.hub_rules.specs.Senders.{is_removal, notes_by}
use Rattle.hub_rules.specs.Shares.{ConnState}

-- what is kept of a connection of which this is known
abbrev pub seat_with : ℕ → ConnState → Seat
seat_with c a = record {
  number = c;
  sender = a.sender;
  phase = phase_of a;
}

abbrev pub seat_of : (ℕ → ConnState) → ℕ → Seat
seat_of about c = seat_with c (about c)

-- the seat of a connection that has just joined
abbrev pub new_seat : ℕ → Sender → Seat
new_seat number sender = record {
  number = number;
  sender = sender;
  phase = phases.Protocol;
}

-- ---- shares

-- the messages that an effect of connection c owes to the connection of a seat
abbrev pub seat_share : ℕ → Effect → Seat → List (List ℕ)
seat_share c effect seat =
    (if phase_hears seat.phase (seat.number == c) effect.hearers seat.sender.sid then effect.others else []) ++ (if seat.number == c then effect.own else [])

-- the same of the connection that sent the line
abbrev pub own_share : Effect → Seat → List (List ℕ)
own_share effect seat = (if phase_hears seat.phase true effect.hearers seat.sender.sid then effect.others else []) ++ effect.own

-- ---- changes

-- an operator changes the connection
abbrev pub seat_after : SeatChange → Seat → Seat
seat_after change seat = record seat {
  sender = record seat.sender { notes = notes_by change seat.sender.notes };
  phase = if is_removal change then phases.Gone else seat.phase;
}

abbrev pub seat_after_if : Bool → SeatChange → Seat → Seat
seat_after_if true change seat = seat_after change seat
seat_after_if false change seat = seat

-- where its user is present, and is the one whose connection changes
abbrev pub seat_after_change_at : Option (ℕ × SeatChange) → Seat → Seat
seat_after_change_at (Some (sid, change)) seat = seat_after_if (is_present (stage_in seat.phase) && (seat.sender.sid == sid)) change seat
seat_after_change_at None seat = seat

-- ---- the connection that sent the line

abbrev pub changed_seat : Change → Seat → Seat
changed_seat change seat = record seat {
  phase = phase_after change seat.phase;
  sender = sender_after change seat.sender;
}

-- the seat of connection c changes
unfoldable pub at_seat : ℕ → (Seat → Seat) → List Seat → List Seat
at_seat c change [] = []
at_seat c change (seat ∷ seats) = if seat.number == c then change seat ∷ seats else seat ∷ at_seat c change seats

-- what is read off the seat of connection c
unfoldable pub in_seat : {A : Type 0} → ℕ → (Seat → A) → A → List Seat → A
in_seat c read none [] = none
in_seat c read none (seat ∷ seats) = if seat.number == c then read seat else in_seat c read none seats

abbrev pub sid_in : ℕ → List Seat → ℕ
sid_in c seats = in_seat c (λ seat. seat.sender.sid) 0 seats

abbrev pub phase_in : ℕ → List Seat → Phase
phase_in c seats = in_seat c (λ seat. seat.phase) phases.Gone seats
