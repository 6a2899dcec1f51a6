-- What a sender gave of late, and for how long it gives way.
use Rattle.std.specs.Prelude.{ℕ, ◌+◌, ◌*◌, ◌-◌, ◌^◌, ◌%◌, ◌==◌, Bool, false, ◌||◌, nat_lt, nat_le, Option, Some, None, unwrap_or, if◌then◌else◌}
use Rattle.server_tasks.specs.Amounts.{capped}
use Rattle.server_tasks.specs.declared.amount.Amount.{Amount}
use Rattle.server_tasks.specs.declared.sender.Given.{Given}
use Rattle.server_tasks.specs.declared.sender.Throttle.{Throttle}

-- what these lines count for: their bytes, and 256 for each
abbrev pub weight_of : Amount → ℕ
weight_of given = capped (given.bytes + capped (given.lines * 256))

-- what was given in the second before this one, which is not the last in which something was counted
abbrev pub given_before : Given → ℕ → ℕ
given_before given moment = if moment == capped (given.second + 1) then given.now else 0

-- what was given in this second and the one before
abbrev pub given_of_late : Given → ℕ → ℕ
given_of_late given moment = if moment == given.second then capped (given.now + given.before) else given_before given moment

-- so many bytes more were given in this second
abbrev pub with_given : ℕ → ℕ → Given → Given
with_given moment count given =
    if moment == given.second then record given { now = capped (given.now + count) }
    else record { second = moment; now = capped count; before = given_before given moment }

-- the number of ticks from one to another, which begin anew after 2 ^ 64
abbrev pub ticks_between : ℕ → ℕ → ℕ
ticks_between since tick = (tick + (2 ^ 64 - since)) % 2 ^ 64

-- it has given way for 40 ticks
abbrev pub is_long_since : Option ℕ → ℕ → Bool
is_long_since None tick = false
is_long_since (Some since) tick = nat_le 40 (ticks_between since tick)

-- it may hand over a line at this tick
abbrev pub may_spend : Throttle → ℕ → Bool
may_spend throttle tick = nat_lt 0 throttle.left || is_long_since throttle.since tick

-- One line fewer is left. Who has given way for long enough has 16 lines, and who has not gives way from its first tick on.
abbrev pub spent_at : ℕ → Throttle → Throttle
spent_at tick throttle =
    if nat_lt 0 throttle.left then record throttle { left = throttle.left - 1 }
    else if is_long_since throttle.since tick then record throttle { since = None; left = 15 }
    else record throttle { since = Some (unwrap_or throttle.since tick) }
