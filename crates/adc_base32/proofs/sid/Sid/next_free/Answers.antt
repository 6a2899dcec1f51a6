use Rattle.std.proofs.Common.{arith, ℕ, ◌*◌}
use Rattle.adc_base32.proofs.Vacancies.{Contains-window, IsNextFree-window, not-all_taken}
use Rattle.adc_base32.proofs.Turns.{next_free-is}
use Rattle.adc_base32.proofs.sid.Sid.next_free.Goals as goal

pub returns-in-Some-clause-first : goal.returns-in-Some-clause-first
returns-in-Some-clause-first c =
    IsNextFree-window c.args.last c.windows.window c.in-Some.number c.args.taken.now c.windows.invariant c.in-Some.ensures.found

pub windows-preserved : goal.windows-preserved
windows-preserved c =
    Contains-window c.args.last c.windows.window c.args.taken.now c.windows.invariant c.in_default.ensures.full

pub unreachable-requires : goal.unreachable-requires
unreachable-requires c =
    not-all_taken c.args.last c.args.taken.now c.requires.last_in c.requires.one_free (λ k below. c.windows.invariant k (omega (arith, below, c.windows-test.false)))

pub returns-in-Some-clause-exact : goal.returns-in-Some-clause-exact
returns-in-Some-clause-exact c =
    next_free-is c.args.last c.in-Some.number c.args.taken.now
    (IsNextFree-window c.args.last c.windows.window c.in-Some.number c.args.taken.now c.windows.invariant c.in-Some.ensures.found)
