-- For how long a client is waited for that takes nothing, whatever is said meanwhile.
use Rattle.std.specs.Prelude.{◌≡◌, ℕ, ◌<◌, ◌≤◌, List, [], ◌∷◌, length, true, false, IsTrue}
use Rattle.server_tasks.specs.Backlogs.{is_far, is_waited_for, full_credit, ticked}
use Rattle.server_tasks.specs.declared.amount.Amount.{Amount}
use Rattle.server_tasks.specs.declared.backlog.Backlog.{Backlog}

-- what becomes of a client in these ticks: what had been said to everybody at each, and how many were due
abbrev pub after_ticks : List (Amount × ℕ) → Backlog → Backlog
after_ticks [] client = client
after_ticks (tick ∷ ticks) client = after_ticks ticks (ticked tick.0 tick.1 client)

-- it is far behind at each of them, and one was due at least
abbrev pub IsFarAtEach : List (Amount × ℕ) → Backlog → Type 0
IsFarAtEach [] client = Unit {0}
IsFarAtEach (tick ∷ ticks) client = IsTrue (is_far client tick.0) × (1 ≤ tick.1) × IsFarAtEach ticks (ticked tick.0 tick.1 client)

-- who takes nothing is waited for no longer than 1,200 ticks
abbrev pub PatienceEnds : Type 0
PatienceEnds = (client : Backlog) (ticks : List (Amount × ℕ)) → client.credit ≤ full_credit → IsFarAtEach ticks client → 1_200 ≤ length ticks →
    is_waited_for (after_ticks ticks client) ≡ false

-- who is not known to read is waited for no longer than 40 ticks
abbrev pub PatienceIsShort : Type 0
PatienceIsShort = (client : Backlog) (ticks : List (Amount × ℕ)) → client.credit ≡ 0 → IsFarAtEach ticks client → 40 ≤ length ticks →
    is_waited_for (after_ticks ticks client) ≡ false

-- who has just moved is waited for so long
abbrev pub PatienceLasts : Type 0
PatienceLasts = (client : Backlog) (ticks : List (Amount × ℕ)) → client.waited_for ≡ 0 → IsFarAtEach ticks client → length ticks < 40 →
    is_waited_for (after_ticks ticks client) ≡ true
