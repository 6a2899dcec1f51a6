-- What ticks use up.
use Rattle.std.proofs.Common.{◌≡◌, ℕ, ◌+◌, ◌-◌, ◌*◌, ◌<◌, ◌≤◌, List, [], ◌∷◌, length, Bool, true, false, IsTrue, arith, refl, if◌then◌else◌}
use Rattle.server_tasks.specs.Amounts.{capped}
use Rattle.server_tasks.specs.Backlogs.{is_far, is_waited_for, ticked}
use Rattle.server_tasks.specs.Patience.{after_ticks, IsFarAtEach, PatienceEnds, PatienceIsShort, PatienceLasts}
use Rattle.server_tasks.specs.declared.amount.Amount.{Amount}
use Rattle.server_tasks.specs.declared.backlog.Backlog.{Backlog}

tick_of : (client : Backlog) (due : ℕ) → 1 ≤ due → (is_tick : Bool) → IsTrue is_tick →
    ((if is_tick then record client { credit = client.credit - 82 * due; waited_for = capped (client.waited_for + 1) } else client).credit ≤ client.credit - 82)
    × ((if is_tick then record client { credit = client.credit - 82 * due; waited_for = capped (client.waited_for + 1) } else client).waited_for ≡ capped (client.waited_for + 1))
tick_of client due some true holds = (omega (arith, some), refl)
tick_of client due some false holds = absurd (grind (arith, holds))

-- a tick of a client that is far behind
far_tick : (client : Backlog) (said : Amount) (due : ℕ) → IsTrue (is_far client said) → 1 ≤ due →
    ((ticked said due client).credit ≤ client.credit - 82) × ((ticked said due client).waited_for ≡ capped (client.waited_for + 1))
far_tick client said due far some = tick_of client due some (is_far client said) far

less_by : (before mid after n : ℕ) → mid ≤ before - 82 → after ≤ mid - 82 * n → after ≤ before - 82 * (n + 1)
less_by before mid after n p q = omega (arith, p, q)

more_by : (before mid after n : ℕ) → mid ≡ capped (before + 1) → capped (mid + n) ≤ after → capped (before + (n + 1)) ≤ after
more_by before mid after n p q = omega (arith, p, q)

most_by : (before mid after n : ℕ) → mid ≡ capped (before + 1) → after ≤ mid + n → after ≤ before + (n + 1)
most_by before mid after n p q = omega (arith, p, q)

-- what so many ticks use up
pub used_up : (ticks : List (Amount × ℕ)) (client : Backlog) → IsFarAtEach ticks client →
    ((after_ticks ticks client).credit ≤ client.credit - 82 * length ticks)
    × (capped (client.waited_for + length ticks) ≤ (after_ticks ticks client).waited_for)
    × ((after_ticks ticks client).waited_for ≤ client.waited_for + length ticks)
used_up [] client far = (omega arith, omega arith, omega arith)
used_up (tick ∷ ticks) client far =
    let step : _ = far_tick client tick.0 tick.1 far.0 far.1 in
    let rest : _ = used_up ticks (ticked tick.0 tick.1 client) far.2 in (
      omega (arith, less_by client.credit (ticked tick.0 tick.1 client).credit (after_ticks ticks (ticked tick.0 tick.1 client)).credit (length ticks) step.0 rest.0),
      omega (arith, more_by client.waited_for (ticked tick.0 tick.1 client).waited_for (after_ticks ticks (ticked tick.0 tick.1 client)).waited_for (length ticks) step.1 rest.1),
      omega (arith, most_by client.waited_for (ticked tick.0 tick.1 client).waited_for (after_ticks ticks (ticked tick.0 tick.1 client)).waited_for (length ticks) step.1 rest.2),
    )

no_more : (client : Backlog) → client.credit ≡ 0 → 40 ≤ client.waited_for → is_waited_for client ≡ false
no_more client none long = grind (arith, none, long)

still : (client : Backlog) → client.waited_for < 40 → is_waited_for client ≡ true
still client short = grind (arith, short)

pub patience-ends : PatienceEnds
patience-ends client ticks le far long =
    let used : _ = used_up ticks client far in
    no_more (after_ticks ticks client) (omega (arith, used.0, le, long)) (omega (arith, used.1, long))

pub patience-short : PatienceIsShort
patience-short client ticks none far long =
    let used : _ = used_up ticks client far in
    no_more (after_ticks ticks client) (omega (arith, used.0, none)) (omega (arith, used.1, long))

pub patience-lasts : PatienceLasts
patience-lasts client ticks none far short =
    let used : _ = used_up ticks client far in
    still (after_ticks ticks client) (omega (arith, used.2, none, short))
