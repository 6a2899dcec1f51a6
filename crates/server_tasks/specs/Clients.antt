-- What the slots know of the sessions that have them, and of their clients.
use Rattle.std.specs.Prelude.{◌≡◌, ℕ, ◌+◌, Bool, ◌&&◌, false, List, [], ◌∷◌, Option, Some, None, slice_get, option_map, if◌then◌else◌}
use Rattle.std.specs.List.{list_any}
use Rattle.server_tasks.specs.Amounts.{capped, no_line, larger}
use Rattle.server_tasks.specs.Becomes.{OneBecomes}
use Rattle.server_tasks.specs.Backlogs.{what_waits, is_behind, is_reading, is_waited_for, with_line, with_take, with_read, ticked}
use Rattle.server_tasks.specs.Senders.{with_given}
use Rattle.server_tasks.specs.Sights.{with_client}
use Rattle.server_tasks.specs.declared.amount.Amount.{Amount}
use Rattle.server_tasks.specs.declared.backlog.Backlog.{Backlog}
use Rattle.server_tasks.specs.declared.sight.Sight.{Sight}
use Rattle.server_tasks.specs.declared.slots.Slot.{Slot}

-- the slot of a session that has just come, with this backlog if it has a client
abbrev pub newcomer_in : Slot → Option Backlog → Slot
newcomer_in slot client = record slot { sid = None; backlog = client; given = record { second = 0; now = 0; before = 0 }; on_the_way = 0 }

-- a line of so many bytes came for its client
abbrev pub with_line_for : ℕ → Slot → Slot
with_line_for count slot = record slot { backlog = option_map (with_line count) slot.backlog }

-- it gave so many bytes in this second
abbrev pub gave : ℕ → ℕ → Slot → Slot
gave moment count slot = record slot { given = with_given moment count slot.given }

-- a line of so many bytes came for the client of one slot, and it counts for the session of the slot `own` in this second
abbrev pub IsGivenBy : ℕ → ℕ → ℕ → ℕ → List Slot → List Slot → Type 0
IsGivenBy own moment count place old new =
    (between : List Slot)
    × OneBecomes (with_line_for count) place old between
    × OneBecomes (gave moment (capped (count + 256))) own between new

-- lines were taken for its client
abbrev pub took : Amount → Amount → Bool → Slot → Slot
took said taken has_more slot = record slot { backlog = option_map (with_take said taken has_more) slot.backlog }

-- its client read so many bytes
abbrev pub wrote : ℕ → Slot → Slot
wrote count slot = record slot { backlog = option_map (with_read count) slot.backlog }

-- a tick passed, for which so many were due
abbrev pub ticked_slot : Amount → ℕ → Slot → Slot
ticked_slot said due slot = record slot { backlog = option_map (ticked said due) slot.backlog }

-- senders give way to this client, if there is one
abbrev pub client_is_behind : Option Backlog → Amount → Bool
client_is_behind None said = false
client_is_behind (Some client) said = is_behind client said

-- senders give way to the client of this slot
abbrev pub slot_is_behind : Option Slot → Amount → Bool
slot_is_behind None said = false
slot_is_behind (Some slot) said = client_is_behind slot.backlog said

abbrev pub is_behind_at : List Slot → ℕ → Amount → Bool
is_behind_at slots place said = slot_is_behind (slice_get slots place) said

-- senders give way to this client, which reads
abbrev pub reader_is_behind : Option Backlog → Amount → Bool
reader_is_behind None said = false
reader_is_behind (Some client) said = is_behind client said && is_reading client

-- what is seen once this client was looked at, too, if there is one and it is waited for
abbrev pub seen_with : Option Backlog → Amount → Sight → Sight
seen_with None said sight = sight
seen_with (Some client) said sight = if is_waited_for client then with_client (what_waits client said) (is_reading client) sight else sight

-- what waits for this client, if there is one and it is waited for
abbrev pub counted_waits : Option Backlog → Amount → Amount
counted_waits None said = no_line
counted_waits (Some client) said = if is_waited_for client then what_waits client said else no_line

-- the most lines and the most bytes that wait for one that is waited for
abbrev pub most_waits : Amount → List Slot → Amount
most_waits said [] = no_line
most_waits said (slot ∷ slots) = larger (counted_waits slot.backlog said) (most_waits said slots)

-- Somebody is seen to be behind, or one who reads, exactly if one is. The most is what waits for those that are waited for.
abbrev pub IsSightOf : Sight → Amount → List Slot → Type 0
IsSightOf sight said slots =
    (sight.is_behind ≡ list_any (λ slot. client_is_behind slot.backlog said) slots)
    × (sight.one_reads ≡ list_any (λ slot. reader_is_behind slot.backlog said) slots)
    × (sight.most ≡ most_waits said slots)
