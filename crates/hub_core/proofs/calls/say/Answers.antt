use Rattle.hub_core.specs.declared.calls.Ask.TheVariants.{Line}
use Rattle.hub_core.proofs.CallRuns.{not-skipped}
use Rattle.hub_core.proofs.calls.say.Goals as goal

pub returns-then-not-is_open-clause-answers : goal.returns-then-not-is_open-clause-answers
returns-then-not-is_open-clause-answers c = λ caller.
    not-skipped c.args.core.now c.args.number caller (Line c.args.number c.args.line c.args.now) c.is_open.result c.if-not-is_open.true c.is_open.ensures.1 (λ f may. may.0)
