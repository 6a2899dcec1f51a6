-- The plain fields of a connection that has just joined, and what an operator makes of them.
use Rattle.std.specs.Prelude.{ℕ, Bool, true, List, [], None}
use Rattle.hub_rules.specs.declared.sender.Notes.{Notes}
use Rattle.hub_rules.specs.declared.sender.SeatChange.{SeatChange}
use Rattle.hub_rules.specs.declared.sender.SeatChange.TheVariants.{Gone}
use Rattle.hub_rules.specs.declared.sender.Sender.{Sender}

abbrev pub new_sender : ℕ → List ℕ → List ℕ → Sender
new_sender sid peer challenge = record { sid = sid; peer = peer; challenge = challenge; features = []; notes = record { searched = None } }

-- the change shuts the connection out
abbrev pub is_removal : SeatChange → Bool
is_removal Gone = true

-- what it makes of what is noted of the connection
abbrev pub notes_by : SeatChange → Notes → Notes
notes_by Gone notes = notes
