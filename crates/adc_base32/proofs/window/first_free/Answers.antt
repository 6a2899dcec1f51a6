use Rattle.std.proofs.Common.{◌∙◌, sym, ℕ}
use Rattle.adc_base32.proofs.Vacancies.{Contains-step}
use Rattle.adc_base32.proofs.window.first_free.Goals as goal

pub loop-step-preserved : goal.loop-step-preserved
loop-step-preserved c =
    Contains-step c.args.last c.args.base c.loop-step.step c.args.taken.now c.loop-step.invariant
    ((c.held_in-held.ensures c.loop-step.step c.loop-step-test.true).0 c.if-not-held-step.false)
