use Rattle.std.proofs.Common.{◌∙◌, sym, ap, subst}
use Rattle.server_tasks.specs.Rung.{IsRung}
use Rattle.server_tasks.proofs.slots.Slots.wake_one.Goals as goal
use Rattle.server_tasks.proofs.slots.Slots.wake_one.Goals.{then-is_behind, else-is_behind}

pub returns-clause-walked : goal.returns-clause-walked
returns-clause-walked c none lacks place named =
    let found = c.ring_one-is_behind.ensures.walked none lacks place named in
    elim c.if-is_behind.branch [
      | then-is_behind w ↦ (
        found.0,
        found.1,
        λ other. subst (λ bells. IsRung bells found.0) (sym (ap (λ slots. slots.bells) w.self-is ∙ w.count_given.ensures.bells)) (found.2 other),
      )
      | else-is_behind w ↦ (found.0, found.1, λ other. subst (λ bells. IsRung bells found.0) (sym (ap (λ slots. slots.bells) w.self-is)) (found.2 other))
    ]
