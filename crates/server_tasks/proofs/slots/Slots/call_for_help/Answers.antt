use Rattle.std.proofs.Common.{◌≡◌, ◌∙◌, sym, subst, ap, None}
use Rattle.server_tasks.proofs.slots.Slots.call_for_help.Goals as goal
use Rattle.server_tasks.proofs.slots.Slots.call_for_help.Goals.{then-not-call, else-not-call}

pub returns-clause-task : goal.returns-clause-task
returns-clause-task c =
    let silent : c.call.new.self.waker ≡ None = ap (λ task. task.waker) c.call.ensures.woken in
    elim c.if-not-call.branch [
      | then-not-call w ↦ subst (λ slots. slots.accept.waker ≡ None) (sym w.self-is) (ap (λ task. task.waker) w.ring_everybody.ensures.accept ∙ silent)
      | else-not-call w ↦ subst (λ slots. slots.accept.waker ≡ None) (sym w.self-is) silent
    ]
