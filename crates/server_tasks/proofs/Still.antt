-- A context stays one of the same task.
use Rattle.std.proofs.Common.{◌≡◌, refl, sym, subst, Option, None, Some, IsSomeAnd}
use Rattle.futures.specs.Task.{Holds, Keeps, Wakes, Lasting}
use Rattle.futures.specs.declared.task.context.Context.{Context}
use Rattle.futures.specs.declared.task.waker.Waker.{Waker}

pub same_task : (before after : Context) → Keeps before after → Holds after (Lasting.same_task before)
unfolding Holds
same_task before after keeps = keeps (Lasting.same_task before) refl

-- who wakes the task later wakes it from the first
pub wakes_still : (before after : Context) (waker : Waker) → Keeps before after → Wakes waker after → Wakes waker before
unfolding Holds
wakes_still before after waker keeps wakes =
    let same : record before { is_woken = after.is_woken; lacks_waker = after.lacks_waker; trail = after.trail; events = after.events } ≡ after = keeps (Lasting.same_task before) refl in
    subst (Wakes waker) (sym same) wakes

pub left_still : (before after : Context) (waker : Option Waker) → Keeps before after → IsSomeAnd waker (λ waker. Wakes waker after) → IsSomeAnd waker (λ waker. Wakes waker before)
left_still before after None keeps left = left
left_still before after (Some waker) keeps left = wakes_still before after waker keeps left
