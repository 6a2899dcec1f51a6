-- What was seen of the clients that are behind, and what senders may hand over together then.
use Rattle.std.specs.Prelude.{ℕ, ◌+◌, ◌-◌, ◌/◌, Bool, not, ◌&&◌, ◌||◌, nat_lt, if◌then◌else◌}
use Rattle.server_tasks.specs.Amounts.{one_line, without, larger, is_beyond}
use Rattle.server_tasks.specs.Backlogs.{far_away}
use Rattle.server_tasks.specs.declared.amount.Amount.{Amount}
use Rattle.server_tasks.specs.declared.sight.Sight.{Sight}

-- three quarters of what an outbox holds
abbrev pub nearly_full : Amount
nearly_full = record { lines = 768; bytes = 786_432 }

-- an eighth of what is left in an outbox that holds so much
abbrev pub eighth_of_rest : Amount → Amount
eighth_of_rest most = record { lines = (1_024 - most.lines) / 8; bytes = (1_048_576 - most.bytes) / 8 }

-- a client was seen, for whom so much waits
abbrev pub with_client : Amount → Bool → Sight → Sight
with_client waiting is_reader sight = record {
  is_behind = sight.is_behind || is_beyond waiting far_away;
  one_reads = sight.one_reads || (is_beyond waiting far_away && is_reader);
  most = larger sight.most waiting;
  ration = eighth_of_rest (larger sight.most waiting);
}

-- somebody would be far behind with so many bytes more
abbrev pub would_be_behind : Sight → ℕ → Bool
would_be_behind sight count = sight.is_behind || nat_lt 524_288 (sight.most.bytes + count)

-- an outbox would be nearly full with so many bytes more
abbrev pub would_be_full : Sight → ℕ → Bool
would_be_full sight count = nat_lt 768 sight.most.lines || nat_lt 786_432 (sight.most.bytes + count)

-- a line of so many bytes is left of what may be handed over
abbrev pub has_ration : Sight → ℕ → Bool
has_ration sight count = not (is_beyond (one_line count) sight.ration)

-- the line was taken of it, if it was there
abbrev pub rationed : ℕ → Sight → Sight
rationed count sight = if has_ration sight count then record sight { ration = without sight.ration (one_line count) } else sight
