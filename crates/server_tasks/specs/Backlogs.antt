-- How far behind a client is, and for how long it is waited for.
use Rattle.std.specs.Prelude.{ℕ, ◌+◌, ◌-◌, ◌*◌, ◌==◌, min, Bool, ◌&&◌, ◌||◌, nat_lt, if◌then◌else◌}
use Rattle.server_tasks.specs.Amounts.{capped, no_line, one_line, both, without, is_beyond}
use Rattle.server_tasks.specs.declared.amount.Amount.{Amount}
use Rattle.server_tasks.specs.declared.backlog.Backlog.{Backlog}

-- half of what an outbox holds
abbrev pub far_away : Amount
far_away = record { lines = 512; bytes = 524_288 }

-- What counts for later ticks at most: the bytes of 1,200 ticks, 82 for each.
abbrev pub full_credit : ℕ
full_credit = 98_400

-- what waits for the client once this was said to everybody
abbrev pub what_waits : Backlog → Amount → Amount
what_waits backlog said = both backlog.waiting (without said backlog.said)

-- so much waits that the client is far behind
abbrev pub is_far : Backlog → Amount → Bool
is_far backlog said = is_beyond (what_waits backlog said) far_away

-- some of what it took is not used up
abbrev pub is_reading : Backlog → Bool
is_reading backlog = nat_lt 0 backlog.credit

-- it has moved in the last 40 ticks, or reads
abbrev pub is_waited_for : Backlog → Bool
is_waited_for backlog = nat_lt backlog.waited_for 40 || is_reading backlog

-- senders give way to it
abbrev pub is_behind : Backlog → Amount → Bool
is_behind backlog said = is_waited_for backlog && is_far backlog said

-- a line of so many bytes came for it alone
abbrev pub with_line : ℕ → Backlog → Backlog
with_line count backlog = record backlog { waiting = both backlog.waiting (one_line count); given = both backlog.given (one_line count) }

-- its client read so many bytes
abbrev pub with_read : ℕ → Backlog → Backlog
with_read count backlog = record backlog { credit = min (backlog.credit + count) full_credit }

-- Lines were taken for it. If none is left, what came during the take waits. Only a take of a line is a move.
abbrev pub with_take : Amount → Amount → Bool → Backlog → Backlog
with_take said taken has_more backlog = with_read taken.bytes (record backlog {
  waiting = without (if has_more then what_waits backlog said else backlog.given) taken;
  said = said;
  given = no_line;
  waited_for = if taken.lines == 0 then backlog.waited_for else 0;
})

-- A tick passed, for which so many were due. Each uses up 82 bytes of what a client took that is far behind.
abbrev pub ticked : Amount → ℕ → Backlog → Backlog
ticked said due backlog =
    if is_far backlog said then record backlog { credit = backlog.credit - 82 * due; waited_for = capped (backlog.waited_for + 1) } else backlog
