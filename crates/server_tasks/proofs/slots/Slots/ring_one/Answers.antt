use Rattle.server_tasks.proofs.slots.Slots.ring_one.Goals as goal

pub returns-in-Some-clause-walked : goal.returns-in-Some-clause-walked
returns-in-Some-clause-walked c none lacks place named =
    (c.in-Some.place, c.in-Some.ensures.walked none lacks place named, λ _. c.wake_for_line.ensures.rung)

pub returns-in_default-clause-walked : goal.returns-in_default-clause-walked
returns-in_default-clause-walked c none lacks place named =
    (c.in-Some.place, c.in-Some.ensures.walked none lacks place named, λ other. absurd (other c.if-place-own.false))

pub returns-in_default-2-clause-walked : goal.returns-in_default-2-clause-walked
returns-in_default-2-clause-walked c none lacks place named = absurd (c.in_default.ensures.walked none lacks place named)
