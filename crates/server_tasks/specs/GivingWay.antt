-- Who may hand over a line while somebody is behind, and who gives way.
use Rattle.std.specs.Prelude.{◌≡◌, ◌≤◌, ℕ, ◌+◌, Bool, true, false, not, ◌&&◌, nat_lt, List, Option, Some, None, slice_get, if◌then◌else◌}
use Rattle.server_tasks.specs.Amounts.{capped}
use Rattle.server_tasks.specs.Senders.{given_of_late, may_spend, spent_at}
use Rattle.server_tasks.specs.Sights.{would_be_behind, would_be_full, has_ration}
use Rattle.server_tasks.specs.declared.giving_way.Way.{Way}
use Rattle.server_tasks.specs.declared.giving_way.Way.TheVariants.{Open, Shut, Free, InTurn}
use Rattle.server_tasks.specs.declared.permission.Permission.{Permission}
use Rattle.server_tasks.specs.declared.permission.Permission.TheVariants.{Unasked, Asked, Lost}
use Rattle.server_tasks.specs.declared.sender.Throttle.{Throttle}
use Rattle.server_tasks.specs.declared.sight.Sight.{Sight}
use Rattle.server_tasks.specs.declared.slots.SlotEvent.TheVariants as deeds
use Rattle.server_tasks.specs.declared.slots.Slot.{Slot}
use Rattle.server_tasks.specs.declared.slots.Slots.{Slots}

-- Who gives much waits for each client that is far behind and reads. Who says little gives way only if an outbox is nearly full.
abbrev pub way_by : Sight → ℕ → Bool → Way
way_by sight coming gives_much =
    if not (would_be_behind sight coming) then Open
    else if gives_much && sight.one_reads then Shut
    else if not gives_much && not (would_be_full sight coming) then Free
    else InTurn

-- what the session of a slot gave of late, in this second
abbrev pub given_by : Option Slot → ℕ → ℕ
given_by None moment = 0
given_by (Some slot) moment = given_of_late slot.given moment

abbrev pub given_at : List Slot → ℕ → ℕ → ℕ
given_at slots place moment = given_by (slice_get slots place) moment

-- how the session of a slot may hand over so many bytes: beyond 8,192 in a second or two it gives much
abbrev pub way_at : Slots → ℕ → ℕ → Way
way_at slots place count =
    way_by slots.sight (capped (slots.on_the_way + count)) (nat_lt 8_192 (given_at slots.slots.items place slots.second + count))

-- it may hand over a line of so many bytes at this tick
abbrev pub admitted : Way → Throttle → ℕ → Sight → ℕ → Bool
admitted Open throttle tick sight count = true
admitted Shut throttle tick sight count = false
admitted Free throttle tick sight count = true
admitted InTurn throttle tick sight count = may_spend throttle tick && has_ration sight count

-- what becomes of its throttle
abbrev pub throttled : Way → ℕ → Throttle → Throttle
throttled Open tick throttle = record throttle { since = None; left = 0 }
throttled Shut tick throttle = throttle
throttled Free tick throttle = throttle
throttled InTurn tick throttle = spent_at tick throttle

-- a long line of so many bytes is on the way
abbrev pub line_begun : ℕ → Slot → Slot
line_begun count slot = record slot { on_the_way = count }

-- none is
abbrev pub line_over : Slot → Slot
line_over slot = record slot { on_the_way = 0 }

-- A sender is answered: it may send a short line unasked, after no long one. Or the slots were asked, or their lock was never had.
abbrev pub IsAnswered : Permission → ℕ → ℕ → Bool → Bool → Type 0
IsAnswered (Unasked nobody) slot count is_after_long may = (count ≤ 4_096) × (is_after_long ≡ false) × (may ≡ true)
IsAnswered (Asked receipt) slot count is_after_long may = receipt ≡ deeds.Asked slot count may
IsAnswered (Lost gave_up) slot count is_after_long may = may ≡ true
