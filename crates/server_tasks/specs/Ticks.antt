-- The ticks that are due, of 5 ms each: one at least, and 20 at most.
use Rattle.std.specs.Prelude.{◌≡◌, ◌≤◌, ℕ, ◌-◌, ◌/◌, min, max}
use Rattle.std.specs.Time.{instant_nanos}
use Rattle.std.specs.declared.time.Instant.{Instant}
use Rattle.server_tasks.specs.declared.slots.SlotEvent.{SlotEvent}
use Rattle.server_tasks.specs.declared.slots.SlotEvent.TheVariants.{Ticked}

-- those in so many nanoseconds
abbrev pub ticks_of : ℕ → ℕ
ticks_of nanos = max 1 (min 20 (nanos / 1_000_000 / 5))

-- those from one moment to another
abbrev pub ticks_between : Instant → Instant → ℕ
ticks_between before now = ticks_of (instant_nanos now - instant_nanos before)

-- of a tick that passed, no more were due
abbrev pub IsOfFewTicks : SlotEvent → Type 0
IsOfFewTicks deed = (second due : ℕ) → deed ≡ Ticked second due → due ≤ 20
