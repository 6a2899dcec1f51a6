use Rattle.adc_base32.proofs.Codes.{text-one}
use Rattle.adc_base32.proofs.Spelled.{spelling-of}
use Rattle.adc_base32.proofs.encoding.encode24.Goals as goal

pub returns-clause-only : goal.returns-clause-only
returns-clause-only c = λ other spelt. text-one c.digits24.result other c.args.bytes.now c.digits24.ensures spelt

pub returns-clause-exact : goal.returns-clause-exact
returns-clause-exact c = spelling-of _ c.args.bytes.now c.digits24.ensures
