-- For how long a sender gives way that is held up by nobody who reads.
use Rattle.std.specs.Prelude.{◌≡◌, ℕ, ◌<◌, ◌≤◌, Some, true, false}
use Rattle.server_tasks.specs.Senders.{may_spend, spent_at, ticks_between}
use Rattle.server_tasks.specs.declared.sender.Throttle.{Throttle}

-- who gives way since a tick may hand over a line 40 ticks later, and not before
abbrev pub GivesWayForSoLong : Type 0
GivesWayForSoLong = (throttle : Throttle) (since tick : ℕ) → throttle.left ≡ 0 → throttle.since ≡ Some since →
    (40 ≤ ticks_between since tick → may_spend throttle tick ≡ true) × (ticks_between since tick < 40 → may_spend throttle tick ≡ false)

-- whoever asks and may not is counted from its first tick on
abbrev pub CountsFromTheFirst : Type 0
CountsFromTheFirst = (throttle : Throttle) (since tick : ℕ) → throttle.since ≡ Some since → may_spend throttle tick ≡ false →
    (spent_at tick throttle).since ≡ Some since

-- 16 lines are handed over then: this one, and 15 that are left
abbrev pub HandsOverSixteen : Type 0
HandsOverSixteen = (throttle : Throttle) (tick : ℕ) → throttle.left ≡ 0 → may_spend throttle tick ≡ true → (spent_at tick throttle).left ≡ 15
